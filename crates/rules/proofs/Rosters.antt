-- What a party finds by what it holds, a group's names by its rosters, what is out of its grasp, and an opening that lists partition 0
-- for everyone.
use mathlib.Core.Path.{◌≡◌, refl, sym, ap, ◌∙◌, subst}
use mathlib.Core.Logic.{◌⊎◌, inl, inr}
use mathlib.Core.Bool.{Bool, true, false, false≢true}
use mathlib.Core.Option.{Option, none, some}
use mathlib.Core.List.{List, [], ◌∷◌, ◌++◌, map}
use Prim.Native.Nat.{ℕ, ◌^◌, ◌≤◌, ◌<◌}
use native.Mathlib.Omega.{arith}
use lib.IntN.{ℤ}
use lib.ListN.{length, take, drop, length-append, length-map}
use lib.Seq.{take_at, drop_at}
use Rattle.rules.specs.Lists.{all, first, All, In}
use Rattle.rules.specs.Names.{parties, Name, partition, key, default_partition, default_key, common_names, bit, bits_in, with_bit}
use Rattle.rules.specs.Partitions.{only, set_names, sets}
use Rattle.rules.specs.Fields.{names_in}
use Rattle.rules.specs.Matching.{Pair, stored_pair, Entry, Op, looking, receiving, taking, pair_for, matches}
use Rattle.rules.specs.State.{State, holds, give, give_each, everyone_holds, with_entries}
use Rattle.rules.specs.Calls.{Call, put, seek, party_of, done, Table, first_that_applies, seek_table, table, remaining, gained, finding, serve, opened_with, opened}
use Rattle.rules.specs.Words.{encode, decode, asked, call, refusals, open_refusals, open_by, opening}
use Rattle.rules.specs.Runs.{run}
use Rattle.rules.specs.Group.{Group, Reaches, CallInGrasp, unrefused, OutOfGrasp, NamesAt, Run, start_of}
use Rattle.rules.specs.Claims.{Shared, OpenedWith, pair_names, used_names}
use Rattle.rules.specs.Rosters.{FoundWhereHeld, NamesWords, NoPartitionNoCall}
use Rattle.rules.specs.Rosters.{HasMember, Listed, GroupNames, Avoids, CallAvoids, InDefault, DefaultNotReached}
use Rattle.rules.specs.Rosters.{ElsewhereAvoids, IsolationByPartitions, common_before, listing_default, AsBefore}
use Rattle.rules.proofs.BitLaws.{eqb-true, pow-bit}
use Rattle.rules.proofs.ListLaws.{bool, clash, passed, all_true, all_of, All-left}
use Rattle.rules.proofs.Members.{some-has, map-in}
use Rattle.rules.proofs.SetLaws.{bits_in_lem, no_bits, set-held}
use Rattle.rules.proofs.Gifts.{holds_same, give_all-kept, each-partition}
use Rattle.rules.proofs.Openings.{listed, listed-eight}
use Rattle.rules.proofs.Kept.{everyone-keeps, everyone-given, pair_ok, entry-ok}
use Rattle.rules.proofs.Grasp.{passed-holds}
use Rattle.rules.proofs.Alike.{member-lt}
use Rattle.rules.proofs.WordRuns.{back, Opened, open_done}
use Rattle.rules.proofs.Decided.{call_by, call-by, passes-table, call-leaves}
use Rattle.rules.proofs.Demand2.{matching-rule, Found, found-by}
use Rattle.rules.proofs.Lift.{isolation, out-of-grasp}
use Rattle.rules.proofs.Holdings.{opening-holdings}

-- ---- what a party sees

-- of a pair whose names are all held, each partition is
pair_held : (s : State) (who : ℕ) (p : Pair ℕ) (rest : List Name) → all (holds s who) (pair_names p ++ rest) ≡ true
    → (c : ℕ) → c ≤ 63 → bit p.partitions c ≡ true → holds s who (partition c) ≡ true
pair_held s who p rest h =
    let names : List Name = sets.names p.partitions in
    let both : All (λ n. holds s who n ≡ true) (pair_names p ++ rest) = all_true (holds s who) (pair_names p ++ rest) h in
    let own : All (λ n. holds s who n ≡ true) names = All-left _ names (key p.key ∷ []) (All-left _ (pair_names p) rest both) in
    (set-held s who p.partitions).0 (all_of (holds s who) names own)

pub found-where-held : FoundWhereHeld
found-where-held ws op who p t result n a m =
    let f : Found ws op who p t result n = found-by ws op who p t result n a in
    let passes = passes-table ws (seek op who p t result) f.passes in
    let used : all (holds (decode ws) who) (pair_names (stored_pair p) ++ names_in t) ≡ true = passed-holds (decode ws) (seek op who p t (length result)) passes in
    let s : Shared p.partitions (pair_for op m.entry).partitions = ((matching-rule op (stored_pair p) t m.entry).0 m.match).partitions in
    record {
      one = s.common;
      in_set = s.in_entry;
      held = pair_held (decode ws) who (stored_pair p) (names_in t) used s.common s.is_partition s.in_template;
    }

-- a set in range that is a word has a partition, and who names it holds that
none-held : (s : State) (who : ℕ) (p : Pair ℤ) (rest : List Name) → p.partitions < 2 ^ 64 → sets.in_range p.partitions ≡ true
    → all (holds s who) (pair_names (stored_pair p) ++ rest) ≡ true → ¬ ((k : ℕ) → k ≤ 63 → holds s who (partition k) ≡ false)
none-held s who p rest l r h f = go (no_bits p.partitions l clear)
  where
    clear : (c : ℕ) → c < 64 → bit p.partitions c ≡ false
    clear c k =
        elim (bool (bit p.partitions c)) [
          | inl b ↦ clash (holds s who (partition c)) (pair_held s who (stored_pair p) rest h c (omega arith) b) (f c (omega arith))
          | inr b ↦ b
        ]

    go : p.partitions ≡ 0 → ⊥
    go e = false≢true (rw e at r)

seek_ok : (s : State) (op : Op) (who : ℕ) (p : Pair ℤ) (t : List ℕ) (room : ℕ) → first_that_applies (table sets s (seek op who p t room)) ≡ none
    → sets.in_range p.partitions ≡ true
unfolding seek_table
seek_ok s op who p t room h = (pair_ok p (passed (seek_table sets s who p t room) h).1.1.0).partitions_ok

pub no-partition-no-call : NoPartitionNoCall
no-partition-no-call ws c w none_of = rw (call-by ws c) (go (first_that_applies (refusals ws c)) refl)
  where
    refuted : (c : Call (List ℕ)) → NamesWords c → ((k : ℕ) → k ≤ 63 → holds (decode ws) (party_of c) (partition k) ≡ false)
        → first_that_applies (table sets (decode ws) (asked c)) ≡ none → ⊥
    refuted (put who r t fs) w f h =
        let o = entry-ok (decode ws) who r t fs h in
        none-held (decode ws) who r (used_names (stored_pair t ∷ []) fs) w.0 o.0.read_ok.partitions_ok (passed-holds (decode ws) (put who r t fs) h) f
    refuted (seek op who p t result) w f h =
        none-held (decode ws) who p (names_in t) w (seek_ok (decode ws) op who p t (length result) h) (passed-holds (decode ws) (seek op who p t (length result)) h) f

    go : (o : Option ℕ) → first_that_applies (refusals ws c) ≡ o → unrefused (call_by o ws c).answer ≡ false
    go (some n) e = refl
    go none e = absurd (refuted c w none_of (passes-table ws c e))

-- ---- a group's names

no-partition : (c : ℕ) → ¬ (In (partition c) common_names)
no-partition c (inl e) = let z : ◌≡◌ {A = ℕ} 0 1 = cc in absurd (omega arith)
no-partition c (inr i) = i

pub group-names : GroupNames
group-names g old roster d =
    record {
      names = λ n. (to n, from n);
      key_zero = λ h. from (key default_key) (inr (h, inl refl));
      partitions = λ c. (λ h. elim (to (partition c) h) [ inl l ↦ l | inr q ↦ absurd (no-partition c q.1) ], λ l. from (partition c) (inl l));
    }
  where
    o : OpenedWith roster (opening old roster).space
    o = opening-holdings old roster d

    to : (n : Name) → NamesAt g (opening old roster).space n → Listed g roster n ⊎ (HasMember g × In n common_names)
    to n h =
        elim ((o.holdings h.who n (member-lt g h.who h.is_member)).0 h.held) [
          | inl l ↦ inl (record { who = h.who; is_member = h.is_member; lists = l })
          | inr i ↦ inr (record { who = h.who; is_member = h.is_member }, i)
        ]

    from : (n : Name) → Listed g roster n ⊎ (HasMember g × In n common_names) → NamesAt g (opening old roster).space n
    from n (inl l) =
        record { who = l.who; is_member = l.is_member; held = (o.holdings l.who n (member-lt g l.who l.is_member)).1 (inl l.lists) }
    from n (inr q) =
        let w : ℕ = q.0.who in
        record { who = w; is_member = q.0.is_member; held = (o.holdings w n (member-lt g w q.0.is_member)).1 (inr q.1) }

-- ---- calls that name none of a group's partitions

module _ (N : Name → Type 0) where
  unreached : (p : Pair ℕ) → Avoids N p.partitions → ¬ (Reaches N p)
  unfolding set_names
  unreached p h r =
      let n = some-has N (sets.names p.partitions) r.0 in
      let c = map-in partition n.0 (bits_in p.partitions) n.1.0 in
      let b = bits_in_lem p.partitions c.0 c.1.0 in
      h c.0 (omega (arith, b.0)) b.1 (subst N (sym c.1.1) n.1.1)

  avoided : (c : Call (List ℕ)) → CallAvoids N c → ¬ (CallInGrasp N c)
  avoided (put who r t fs) h (inl q) = unreached (stored_pair r) h.0 q
  avoided (put who r t fs) h (inr q) = unreached (stored_pair t) h.1 q
  avoided (seek looking who p t result) h q = q
  avoided (seek receiving who p t result) h q = q
  avoided (seek taking who p t result) h q = unreached (stored_pair p) h q

  module _ (without : ¬ (N (partition default_partition))) where
    only-default : (set : ℕ) → set ≡ only default_partition → Avoids N set
    only-default set e c l b =
        let one : bit (only default_partition) c ≡ true = rw e at b in
        let q : default_partition ≡ c = pow-bit default_partition c (eqb-true _ 1 one) in
        λ n. without (subst (λ (x : ℕ). N (partition x)) (sym q) n)

    in-default : (c : Call (List ℕ)) → InDefault c → CallAvoids N c
    in-default (put who r t fs) h = (only-default r.partitions h.0, only-default t.partitions h.1)
    in-default (seek looking who p t result) h = tt
    in-default (seek receiving who p t result) h = tt
    in-default (seek taking who p t result) h = only-default p.partitions h

pub default-not-reached : DefaultNotReached
default-not-reached g old roster d unlisted =
    let N : Name → Type 0 = NamesAt g (opening old roster).space in
    let without : ¬ (N (partition default_partition)) = λ n. unlisted (((group-names g old roster d).partitions default_partition).0 n) in
    record { avoiding = avoided N; in_default = λ c h. avoided N c (in-default N without c h) }

-- whoever avoids what the rosters list avoids the group's names
avoids-names : (g : Group) (old roster : List ℕ) → (opening old roster).answer ≡ done → (c : Call (List ℕ))
    → CallAvoids (Listed g roster) c → CallAvoids (NamesAt g (opening old roster).space) c
avoids-names g old roster d = go
  where
    set : (w : ℕ) → Avoids (Listed g roster) w → Avoids (NamesAt g (opening old roster).space) w
    set w h c l b n = h c l b (((group-names g old roster d).partitions c).0 n)

    go : (c : Call (List ℕ)) → CallAvoids (Listed g roster) c → CallAvoids (NamesAt g (opening old roster).space) c
    go (put who r t fs) h = (set r.partitions h.0, set t.partitions h.1)
    go (seek looking who p t result) h = tt
    go (seek receiving who p t result) h = tt
    go (seek taking who p t result) h = set p.partitions h

kept_out : (g : Group) (r : Run) → ElsewhereAvoids g r → OutOfGrasp g (NamesAt g (start_of r)) (start_of r) r.calls
kept_out g r h =
    out-of-grasp g (NamesAt g (start_of r)) r.calls (start_of r)
    (λ before after c e b u. avoided (NamesAt g (start_of r)) c (avoids-names g r.old r.roster r.opens c (h before after c e b u)))

pub isolation-by-partitions : IsolationByPartitions
isolation-by-partitions g r₁ r₂ same e a₁ a₂ =
    isolation g r₁.old r₂.old r₁.roster r₂.roster r₁.opens r₂.opens same r₁.calls r₂.calls e (kept_out g r₁ a₁) (kept_out g r₂ a₂)

-- ---- stations as they were

module _ (roster : List ℕ) (l : length roster ≡ 16) where
  front : List ℕ
  front = map (λ w. with_bit w default_partition) (take 8 roster)

  front-eight : length front ≡ 8
  unfolding front
  front-eight = length-map (take 8 roster) _ ∙ (listed-eight roster l).0

  listing-length : length (listing_default roster) ≡ 16
  unfolding front
  listing-length = length-append front (drop 8 roster) ∙ rw (front-eight, (listed-eight roster l).1) refl

  listing-partitions : take 8 (listing_default roster) ≡ front
  unfolding front
  listing-partitions = take_at front (drop 8 roster) 8 front-eight

  listing-keys : drop 8 (listing_default roster) ≡ drop 8 roster
  unfolding front
  listing-keys = drop_at front (drop 8 roster) 8 front-eight

  listing-answer : (old : List ℕ) → (opening old (listing_default roster)).answer ≡ (opening old roster).answer
  unfolding opening
  listing-answer old =
      let same : open_refusals old (listing_default roster) ≡ open_refusals old roster = rw (listing-length, l, listing-keys) refl in
      ap (λ (ts : Table). (open_by (first_that_applies ts) old (listing_default roster)).answer) same ∙ go (first_that_applies (open_refusals old roster))
    where
      go : (o : Option ℕ) → (open_by o old (listing_default roster)).answer ≡ (open_by o old roster).answer
      go (some n) = refl
      go none = refl

  -- partition 0 listed, or given to everyone
  listing-opened : opened (listing_default roster) ≡ opened_with common_before roster
  unfolding opened give front
  listing-opened =
      rw (listing-partitions, listing-keys)
      (sym (ap (give_each parties common_names) (each-partition default_partition (listed roster) (listed-eight roster l).0)))

-- what a party holds, it holds after every call
serve-keeps : (s : State) (c : Call ℕ) (p : ℕ) (m : Name) → holds s p m ≡ true → holds (serve sets s c).state p m ≡ true
serve-keeps s (put who r t fs) p m h = sym (holds_same p s _ (refl, refl) m) ∙ h
serve-keeps s (seek op who q t room) p m h = go (first f s.entries)
  where
    f : Entry → Bool
    f = matches sets op (stored_pair q) t

    es : List Entry
    es = remaining op f s.entries

    go : (o : Option Entry) → holds (finding op who o es s).state p m ≡ true
    go none = h
    go (some e) = give_all-kept who p (gained op e) m (with_entries es s) (sym (holds_same p s (with_entries es s) (refl, refl) m) ∙ h)

run-keeps : (ns : List Name) (cs : List (Call (List ℕ))) (ws : List ℕ) → everyone_holds ns (decode ws) ≡ true → everyone_holds ns (decode (run ws cs)) ≡ true
run-keeps ns [] ws h = h
run-keeps ns (c ∷ cs) ws h =
    run-keeps ns cs (call ws c).space
    (call-leaves (λ s. everyone_holds ns s ≡ true) ws c h (λ _. everyone-keeps ns (decode ws) _ (serve-keeps (decode ws) (asked c)) h))

pub as_before : AsBefore
as_before old roster d =
    record {
      opens = opens;
      words = o.words ∙ ap encode (listing-opened roster l);
      sound_before = λ cs. run-keeps common_before cs (opening old (listing_default roster)).space start;
    }
  where
    l : length roster ≡ 16
    l = (open_done old roster d).sixteen

    opens : (opening old (listing_default roster)).answer ≡ done
    opens = listing-answer roster l old ∙ d

    o : Opened (opening old (listing_default roster)) (listing_default roster)
    o = open_done old (listing_default roster) opens

    start : everyone_holds common_before (decode (opening old (listing_default roster)).space) ≡ true
    start = rw (o.words, back (opened (listing_default roster)) o.wf, listing-opened roster l) (everyone-given common_before (listed roster) (listed-eight roster l))
