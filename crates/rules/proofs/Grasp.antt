-- The invariant of one run: members hold names of the group only, their entries stay inside those names, and what others
-- wrote is out of the group's grasp.
use mathlib.Core.Path.{◌≡◌, refl, sym, ap, ◌∙◌, subst}
use mathlib.Core.Logic.{inl, inr}
use mathlib.Core.Bool.{Bool, true, false, not, ◌&&◌, cond}
use mathlib.Core.Option.{Option, none, some}
use mathlib.Core.List.{List, [], ◌∷◌, ◌++◌}
use Prim.Native.Nat.{ℕ, ◌≤◌}
use native.Mathlib.Omega.{arith}
use lib.Dec.{eqb}
use lib.IntN.{ℤ}
use lib.ListN.{length}
use Rattle.rules.specs.Lists.{all, first, without, All, Some}
use Rattle.rules.specs.Names.{Name, key, key_in_range, co_stored}
use Rattle.rules.specs.Partitions.{sets}
use Rattle.rules.specs.Fields.{names_in}
use Rattle.rules.specs.Matching.{Pair, stored_pair, Entry, Op, looking, receiving, taking, pair_for, fields_agree, keys_agree, matches}
use Rattle.rules.specs.State.{State, holds, give, give_all, with_entries}
use Rattle.rules.specs.Calls.{Call, put, seek, party_of, first_that_applies, bad_pair, put_table, table}
use Rattle.rules.specs.Calls.{entry_of, removes, remaining, gained, finding, serve, step}
use Rattle.rules.specs.Claims.{pair_names, call_names}
use Rattle.rules.specs.Group.{Group, member, by_group, Reaches, EntryInGrasp, CallInGrasp, unrefused}
use Rattle.rules.proofs.BitLaws.{eqb-true}
use Rattle.rules.proofs.ListLaws.{bool, clash, and_left, and_right, or_right, not-false, passed, all_true, All-map, All-snoc, All-left, All-right, All-without, first-All}
use Rattle.rules.proofs.Members.{All-at-in, some_in}
use Rattle.rules.proofs.SetLaws.{SharedName, turned, agree-shared}
use Rattle.rules.proofs.KeyLaws.{stored-le}
use Rattle.rules.proofs.Kept.{All-gained}
use Rattle.rules.proofs.Gifts.{give_all-entries, EightEach, give_all-eight, SameWords, holds_same, give_all-other, holds-give}
use Rattle.rules.proofs.NameTests.{names-held}
use Rattle.rules.proofs.Tables.{seek-passed, put-passed}
use Rattle.rules.proofs.StateRuns.{step-cases, serve-unrefused}

-- ---- what a call that no test turns away has

pub passed-holds : (s : State) (c : Call ℕ) → first_that_applies (table sets s c) ≡ none → all (holds s (party_of c)) (call_names c) ≡ true
passed-holds s (put who r t fs) h = names-held s who (stored_pair r ∷ stored_pair t ∷ []) fs (put-passed s who r t fs h)
passed-holds s (seek op who p t room) h = names-held s who (stored_pair p ∷ []) t (seek-passed s who p t room h)

passed-range : (s : State) (who : ℕ) (r t : Pair ℤ) (fs : List ℕ) → first_that_applies (put_table sets s who r t fs) ≡ none
    → key_in_range t.key ≡ true
unfolding put_table
passed-range s who r t fs h =
    let a : All (λ x. x.0 ≡ false) (put_table sets s who r t fs) = passed (put_table sets s who r t fs) h in
    not-false (key_in_range t.key) (or_right (not (sets.in_range t.partitions)) (not (key_in_range t.key)) (or_right (bad_pair sets r) (bad_pair sets t) a.1.1.0))

-- ---- the invariant, for a group and a set of names

-- the names contain all names of the pair
abbrev pub Contains : (Name → Type 0) → Pair ℕ → Type 0
Contains N p = All N (pair_names p)

contains_key : (N : Name → Type 0) (p : Pair ℕ) → Contains N p → N (key p.key)
contains_key N p h = (All-right N (sets.names p.partitions) (key p.key ∷ []) h).0

-- of two sets that share a partition, the names that contain the one reach the other
contains-some : (N : Name → Type 0) (p : Pair ℕ) (w : ℕ) → Contains N p → SharedName p.partitions w → Some N (sets.names w)
contains-some N p w h q =
    let a : All N (sets.names p.partitions) = All-left N (sets.names p.partitions) (key p.key ∷ []) h in
    some_in N q.shared (sets.names w) q.in_other (All-at-in N q.shared (sets.names p.partitions) a q.in_one)

-- an entry that members wrote; the range is what makes the co-key of the co-key the key itself
pub record Inward (N : Name → Type 0) (e : Entry) : Type 0 where
  pub takes : Contains N e.take_pair
  pub range : e.take_pair.key ≤ 62
  pub carried : All N (names_in e.fields)

pub record Apart (g : Group) (N : Name → Type 0) (e : Entry) : Type 0 where
  pub ours : member g e.writer ≡ true → Inward N e
  pub theirs : member g e.writer ≡ false → ¬ (EntryInGrasp N e)

pub record Closed (g : Group) (N : Name → Type 0) (s : State) : Type 0 where
  pub eight : EightEach s
  pub inside : (p : ℕ) (n : Name) → member g p ≡ true → holds s p n ≡ true → N n
  pub apart : All (Apart g N) s.entries

-- ---- which entries match

match-pair : (op : Op) (p : Pair ℕ) (t : List ℕ) (e : Entry) → matches sets op p t e ≡ true
    → SharedName p.partitions (pair_for op e).partitions × (co_stored (pair_for op e).key ≡ p.key)
unfolding matches
match-pair op p t e h =
    let a : Bool = sets.agree p.partitions (pair_for op e).partitions in
    let b : Bool = keys_agree p.key (pair_for op e).key in
    let f : Bool = fields_agree t e.fields in
    let r : (a && b) ≡ true = and_right f (a && b) (and_right (eqb (length t) (length e.fields)) (f && (a && b)) h) in
    (agree-shared p.partitions (pair_for op e).partitions (and_left a b r), eqb-true (co_stored (pair_for op e).key) p.key (and_right a b r))

module _ (N : Name → Type 0) (p : Pair ℕ) (t : List ℕ) (e : Entry) where
  -- what is out of the grasp matches no template with names of the group
  theirs-miss : (op : Op) → ¬ (EntryInGrasp N e) → Contains N p → matches sets op p t e ≡ false
  theirs-miss op h c = elim (bool (matches sets op p t e)) [ inl m ↦ absurd (go op (match-pair op p t e m)) | inr m ↦ m ]
    where
      reached : (q : Pair ℕ) → SharedName p.partitions q.partitions × (co_stored q.key ≡ p.key) → Reaches N q
      reached q m = (contains-some N p q.partitions c m.0, rw m.1 (contains_key N p c))

      go : (op : Op) → SharedName p.partitions (pair_for op e).partitions × (co_stored (pair_for op e).key ≡ p.key) → ⊥
      go looking m = h (inl (reached e.read_pair m))
      go receiving m = h (inl (reached e.read_pair m))
      go taking m = h (inr (reached e.take_pair m))

  -- a member's entry matches no take out of the grasp
  pub ours-miss : Inward N e → ¬ (Reaches N p) → matches sets taking p t e ≡ false
  ours-miss h r = elim (bool (matches sets taking p t e)) [ inl m ↦ absurd (go (match-pair taking p t e m)) | inr m ↦ m ]
    where
      go : SharedName p.partitions e.take_pair.partitions × (co_stored e.take_pair.key ≡ p.key) → ⊥
      go m =
          let z : e.take_pair.key ≡ co_stored p.key = omega (arith, h.range, m.1) in
          r (
            contains-some N e.take_pair p.partitions h.takes (turned m.0),
            subst (λ (x : ℕ). N (key x)) z (contains_key N e.take_pair h.takes),
          )

-- a gift to another party leaves a member's words
pub others-words : (g : Group) (who p : ℕ) (ns : List Name) (s : State) → member g who ≡ false → member g p ≡ true → SameWords p (give_all who ns s) s
others-words g who p ns s hw k = give_all-other who p ns s (λ e. clash (member g p) k (ap (member g) e ∙ hw))

module _ (g : Group) (N : Name → Type 0) where
  -- nothing that others wrote matches a template with names of the group
  pub others-miss : (op : Op) (p : Pair ℕ) (t : List ℕ) → Contains N p → (es : List Entry) → All (Apart g N) es
      → All (λ e. member g e.writer ≡ false → matches sets op p t e ≡ false) es
  others-miss op p t c = All-map (Apart g N) (λ e. member g e.writer ≡ false → matches sets op p t e ≡ false)
      (λ e a m. theirs-miss N p t e op (a.theirs m) c)

  -- ---- gifts and entries, one after the other
  closed-give : (who : ℕ) (ns : List Name) (s : State) → All N ns → Closed g N s → Closed g N (give_all who ns s)
  closed-give who [] s a h = h
  closed-give who (n ∷ ns) s a h =
      closed-give who ns (give who n s) a.1
      (record {
        eight = give_all-eight who (n ∷ []) s h.eight;
        inside = λ p m k e. elim (holds-give who p n m s e) [ inl b ↦ h.inside p m k b | inr q ↦ subst N q a.0 ];
        apart = rw (give_all-entries who (n ∷ []) s) h.apart;
      })

  closed-give-other : (who : ℕ) (ns : List Name) (s : State) → member g who ≡ false → Closed g N s → Closed g N (give_all who ns s)
  closed-give-other who ns s hw h =
      record {
        eight = give_all-eight who ns s h.eight;
        inside = λ p n k e. h.inside p n k (sym (holds_same p (give_all who ns s) s (others-words g who p ns s hw k) n) ∙ e);
        apart = rw give_all-entries h.apart;
      }

  closed-with : (es : List Entry) (s : State) → All (Apart g N) es → Closed g N s → Closed g N (with_entries es s)
  closed-with es s a h =
      record {
        eight = h.eight;
        inside = λ p n k e. h.inside p n k (sym (holds_same p (with_entries es s) s (refl, refl) n) ∙ e);
        apart = a;
      }

  closed-put : (e : Entry) (s : State) → Apart g N e → Closed g N s → Closed g N (with_entries (s.entries ++ (e ∷ [])) s)
  closed-put e s a h = closed-with (s.entries ++ (e ∷ [])) s (All-snoc (Apart g N) s.entries e h.apart a) h

  closed-remaining : (op : Op) (m : Entry → Bool) (s : State) → Closed g N s → Closed g N (with_entries (remaining op m s.entries) s)
  closed-remaining op m s h = go (removes op)
    where
      go : (b : Bool) → Closed g N (with_entries (cond b (without m s.entries) s.entries) s)
      go true = closed-with (without m s.entries) s (All-without (Apart g N) m s.entries h.apart) h
      go false = closed-with s.entries s h.apart h

  -- ---- a member's call keeps the invariant
  pub names-inside : (s : State) (c : Call ℕ) → Closed g N s → by_group g c ≡ true → first_that_applies (table sets s c) ≡ none → All N (call_names c)
  unfolding by_group
  names-inside s c h hw e =
      All-map (λ n. holds s (party_of c) n ≡ true) N (λ n k. h.inside (party_of c) n hw k) (call_names c)
      (all_true (holds s (party_of c)) (call_names c) (passed-holds s c e))

  own-served : (s : State) (c : Call ℕ) → Closed g N s → by_group g c ≡ true → first_that_applies (table sets s c) ≡ none → Closed g N (serve sets s c).state
  unfolding by_group
  own-served s (put who r t fs) h hw e =
      let a : All N (call_names (put who r t fs)) = names-inside s (put who r t fs) h hw e in
      let b : All N (pair_names (stored_pair t) ++ names_in fs) = All-right N (pair_names (stored_pair r)) (pair_names (stored_pair t) ++ names_in fs) a in
      closed-put (entry_of who r t fs) s
      (record {
        ours = λ _. record {
          takes = All-left N (pair_names (stored_pair t)) (names_in fs) b;
          range = stored-le t.key (passed-range s who r t fs e);
          carried = All-right N (pair_names (stored_pair t)) (names_in fs) b;
        };
        theirs = λ k. clash (member g who) hw k;
      }) h
  own-served s (seek op who p t room) h hw e = go (first m s.entries) refl
    where
      m : Entry → Bool
      m = matches sets op (stored_pair p) t

      a : All N (call_names (seek op who p t room))
      a = names-inside s (seek op who p t room) h hw e

      go : (o : Option Entry) → first m s.entries ≡ o → Closed g N (finding op who o (remaining op m s.entries) s).state
      go none f = h
      go (some x) f =
          let r : Apart g N x × (m x ≡ true) = first-All (Apart g N) m s.entries x h.apart f in
          let miss : member g x.writer ≡ false → m x ≡ false = λ z. theirs-miss N (stored_pair p) t x op (r.0.theirs z) (All-left N (pair_names (stored_pair p)) (names_in t) a) in
          let w : member g x.writer ≡ true = elim (bool (member g x.writer)) [ inl y ↦ y | inr z ↦ clash (m x) r.1 (miss z) ] in
          closed-give who (gained op x) (with_entries (remaining op m s.entries) s) (All-gained N op x (r.0.ours w).carried) (closed-remaining op m s h)

  pub closed-own : (s : State) (c : Call ℕ) → Closed g N s → by_group g c ≡ true → Closed g N (step sets s c).state
  closed-own s c h hw = step-cases (λ o. Closed g N o.state) s c (λ n. h) (own-served s c h hw)

  -- ---- so does a call from elsewhere that is out of the grasp
  other-served : (s : State) (c : Call ℕ) → Closed g N s → by_group g c ≡ false → ¬ (CallInGrasp N c) → Closed g N (serve sets s c).state
  unfolding by_group
  other-served s (put who r t fs) h hw q =
      closed-put (entry_of who r t fs) s (record { ours = λ k. clash (member g who) k hw; theirs = λ _. q }) h
  other-served s (seek op who p t room) h hw q = go (first m s.entries)
    where
      m : Entry → Bool
      m = matches sets op (stored_pair p) t

      go : (o : Option Entry) → Closed g N (finding op who o (remaining op m s.entries) s).state
      go none = h
      go (some x) = closed-give-other who (gained op x) (with_entries (remaining op m s.entries) s) hw (closed-remaining op m s h)

  pub closed-other : (s : State) (c : Call ℕ) → Closed g N s → by_group g c ≡ false
      → (unrefused (step sets s c).answer ≡ true → ¬ (CallInGrasp N c)) → Closed g N (step sets s c).state
  closed-other s c h hw =
      step-cases (λ o. (unrefused o.answer ≡ true → ¬ (CallInGrasp N c)) → Closed g N o.state) s c
      (λ n q. h) (λ e q. other-served s c h hw (q (serve-unrefused s c)))
