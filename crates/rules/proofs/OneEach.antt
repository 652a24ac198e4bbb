-- Sets of one partition: every call answers what the rules give with single partitions compared for equality (M7).
use mathlib.Core.Path.{◌≡◌, refl, sym, ap, ap₂, ◌∙◌, subst}
use mathlib.Core.Logic.{◌⊎◌, inl, inr, ◌≢◌}
use mathlib.Core.Bool.{Bool, true, false, ◌||◌, cond}
use mathlib.Core.Option.{Option, none, some}
use mathlib.Core.List.{List, [], ◌∷◌, map, map-append}
use Prim.Native.Nat.{ℕ, zero, suc, ◌+◌, ◌/◌, ◌%◌, ◌^◌, ◌≤◌, ◌<◌}
use native.Mathlib.Omega.{arith}
use borrow.Author.Tests.{ne_eqb, le-leb}
use lib.Dec.{eqb}
use lib.ListN.{length}
use lib.Pow.{pow_pos}
use Rattle.rules.specs.Lists.{keep, first, without, All, from}
use Rattle.rules.specs.Names.{Name, partition, key, bit, bits_in}
use Rattle.rules.specs.Partitions.{only, set_names, sets_agree, sets, singles}
use Rattle.rules.specs.Matching.{Pair, stored_pair, Entry, Op, looking, receiving, taking, matches}
use Rattle.rules.specs.State.{State, holds, give, give_all, with_entries, wrote, live}
use Rattle.rules.specs.Calls.{Call, put, seek, first_that_applies, put_table, seek_table, table, Outcome, entry_of, removes, remaining, gained, finding, serve, decided, step, opened}
use Rattle.rules.specs.Words.{asked, opening}
use Rattle.rules.specs.Runs.{state_reply, state_replies}
use Rattle.rules.specs.Claims.{only_in, with_sets, NamesSingles, OnePartitionEach}
use Rattle.rules.proofs.BitLaws.{eqb-true, eqb_same, pow-bit, pow_self}
use Rattle.rules.proofs.ListLaws.{bool, clash}
use Rattle.rules.proofs.WordRuns.{Opened, open_done}
use Rattle.rules.proofs.Lift.{replies-lift}

-- ---- a set of one partition

only-bit : (c d : ℕ) → bit (only c) d ≡ eqb c d
only-bit c d = go (bool (bit (only c) d)) (bool (eqb c d))
  where
    go : (bit (only c) d ≡ true) ⊎ (bit (only c) d ≡ false) → (eqb c d ≡ true) ⊎ (eqb c d ≡ false) → bit (only c) d ≡ eqb c d
    go (inl a) k = a ∙ sym (rw (pow-bit c d (eqb-true (2 ^ c / 2 ^ d % 2) 1 a)) (eqb_same d))
    go (inr a) (inl b) = clash (bit (only c) d) (rw (eqb-true c d b) (pow_self d)) a
    go (inr a) (inr b) = a ∙ sym b

keep_same : {A : Type 0} (p q : A → Bool) → ((x : A) → p x ≡ q x) → (l : List A) → keep p l ≡ keep q l
keep_same p q e [] = refl
keep_same p q e (x ∷ l) = rw (e x, keep_same p q e l) refl

keep-none : (c i n : ℕ) → c < i → keep (eqb c) (from i n) ≡ []
keep-none c i zero h = refl
keep-none c i (suc n) h = rw (ne_eqb c i (λ e. omega arith)) (keep-none c (suc i) n (omega arith))

keep_one : (c i n : ℕ) → i ≤ c → c < i + n → keep (eqb c) (from i n) ≡ c ∷ []
keep_one c i zero h l = absurd (omega arith)
keep_one c i (suc n) h l = go (bool (eqb c i)) (keep_one c (suc i) n)
  where
    go : (eqb c i ≡ true) ⊎ (eqb c i ≡ false) → (suc i ≤ c → c < suc i + n → keep (eqb c) (from (suc i) n) ≡ c ∷ [])
        → keep (eqb c) (from i (suc n)) ≡ c ∷ []
    go (inl e) r = subst (λ (j : ℕ). keep (eqb c) (from j (suc n)) ≡ c ∷ []) (eqb-true c i e) (rw (eqb_same c) (ap (λ l. c ∷ l) (keep-none c (suc c) n (omega arith))))
    go (inr e) r = let n : c ≢ i = λ q. clash (eqb c i) (rw q (eqb_same i)) e in rw e (r (omega arith) (omega arith))

only-bits : (c : ℕ) → c ≤ 63 → bits_in (only c) ≡ c ∷ []
unfolding bits_in
only-bits c h = keep_same (bit (only c)) (eqb c) (only-bit c) (from 0 64) ∙ keep_one c 0 64 (omega arith) (omega arith)

range-one : (c : ℕ) → c ≤ 63 → sets.in_range (only c) ≡ singles.in_range c
range-one c h =
    let p : 0 < 2 ^ c = pow_pos c in
    rw (ne_eqb (2 ^ c) 0 (λ e. omega arith), le-leb c 63 h) refl

names-one : (c : ℕ) → c ≤ 63 → sets.names (only c) ≡ singles.names c
unfolding set_names
names-one c h = ap (map partition) (only-bits c h)

agree-one : (t e : ℕ) → t ≤ 63 → sets.agree (only t) (only e) ≡ singles.agree t e
unfolding sets_agree
agree-one t e h = rw (only-bits t h, only-bit e t) (or-false (eqb e t))
  where
    or-false : (b : Bool) → (b || false) ≡ b
    or-false true = refl
    or-false false = refl

-- ---- a state of single partitions, and the one with their sets

abbrev entry_sets : Entry → Entry
entry_sets e =
    record { writer = e.writer; read_pair = only_in e.read_pair; take_pair = only_in e.take_pair; fields = e.fields }

abbrev state_sets : State → State
state_sets s = with_entries (map entry_sets s.entries) s

match-one : (op : Op) (p : Pair ℕ) (t : List ℕ) (e : Entry) → p.partitions ≤ 63
    → matches sets op (only_in p) t (entry_sets e) ≡ matches singles op p t e
unfolding matches
match-one looking p t e h = rw (agree-one p.partitions e.read_pair.partitions h) refl
match-one receiving p t e h = rw (agree-one p.partitions e.read_pair.partitions h) refl
match-one taking p t e h = rw (agree-one p.partitions e.take_pair.partitions h) refl

live-sets : (who : ℕ) (es : List Entry) → live who (map entry_sets es) ≡ live who es
unfolding live
live-sets who [] = refl
live-sets who (e ∷ es) = go (wrote who e) (live-sets who es)
  where
    go : (b : Bool) → length (keep (wrote who) (map entry_sets es)) ≡ length (keep (wrote who) es)
        → length (cond b (entry_sets e ∷ keep (wrote who) (map entry_sets es)) (keep (wrote who) (map entry_sets es)))
        ≡ length (cond b (e ∷ keep (wrote who) es) (keep (wrote who) es))
    go true h = ap suc h
    go false h = h

give-sets : (who : ℕ) (ns : List Name) (s : State) → give_all who ns (state_sets s) ≡ state_sets (give_all who ns s)
unfolding give
give-sets who [] s = refl
give-sets who (partition c ∷ ns) s = give-sets who ns (give who (partition c) s)
give-sets who (key k ∷ ns) s = give-sets who ns (give who (key k) s)

-- ---- the search

abbrev found-sets : Option Entry → Option Entry
found-sets none = none
found-sets (some e) = some (entry_sets e)

module _ (m n : Entry → Bool) (same : (e : Entry) → m (entry_sets e) ≡ n e) where
  first-sets : (es : List Entry) → first m (map entry_sets es) ≡ found-sets (first n es)
  first-sets [] = refl
  first-sets (e ∷ es) = rw (same e) (go (n e) (first-sets es))
    where
      go : (b : Bool) → first m (map entry_sets es) ≡ found-sets (first n es)
          → cond b (some (entry_sets e)) (first m (map entry_sets es)) ≡ found-sets (cond b (some e) (first n es))
      go true h = refl
      go false h = h

  without-sets : (es : List Entry) → without m (map entry_sets es) ≡ map entry_sets (without n es)
  without-sets [] = refl
  without-sets (e ∷ es) = rw (same e) (go (n e) (without-sets es))
    where
      go : (b : Bool) → without m (map entry_sets es) ≡ map entry_sets (without n es)
          → cond b (map entry_sets es) (entry_sets e ∷ without m (map entry_sets es)) ≡ map entry_sets (cond b es (e ∷ without n es))
      go true h = refl
      go false h = ap (λ l. entry_sets e ∷ l) h

  remaining-sets : (op : Op) (es : List Entry) → remaining op m (map entry_sets es) ≡ map entry_sets (remaining op n es)
  remaining-sets op es = go (removes op)
    where
      go : (b : Bool) → cond b (without m (map entry_sets es)) (map entry_sets es) ≡ map entry_sets (cond b (without n es) es)
      go true = without-sets es
      go false = refl

-- ---- one call

-- the same reply, and the states correspond
record SameBySets (o p : Outcome) : Type 0 where
  reply : state_reply o ≡ state_reply p
  state : o.state ≡ state_sets p.state

serve-one : (s : State) (c : Call ℕ) → NamesSingles c → SameBySets (serve sets (state_sets s) (with_sets c)) (serve singles s c)
serve-one s (put who r t fs) h =
    record { reply = refl; state = ap (λ es. with_entries es s) (sym (map-append entry_sets s.entries (entry_of who r t fs ∷ []))) }
serve-one s (seek op who p t room) h =
    rw (first-sets m n same s.entries, remaining-sets m n same op s.entries) (go (first n s.entries))
  where
    m : Entry → Bool
    m = matches sets op (stored_pair (only_in p)) t

    n : Entry → Bool
    n = matches singles op (stored_pair p) t

    same : (e : Entry) → m (entry_sets e) ≡ n e
    same e = match-one op (stored_pair p) t e h

    go : (o : Option Entry)
        → SameBySets (finding op who (found-sets o) (map entry_sets (remaining op n s.entries)) (state_sets s)) (finding op who o (remaining op n s.entries) s)
    go none = record { reply = refl; state = refl }
    go (some e) = record { reply = refl; state = give-sets who (gained op e) (with_entries (remaining op n s.entries) s) }

table-one : (s : State) (c : Call ℕ) → NamesSingles c → table sets (state_sets s) (with_sets c) ≡ table singles s c
unfolding put_table seek_table holds
table-one s (put who r t fs) h =
    rw (
      range-one r.partitions h.0,
      range-one t.partitions h.1,
      names-one r.partitions h.0,
      names-one t.partitions h.1,
      live-sets who s.entries,
    ) refl
table-one s (seek op who p t room) h = rw (range-one p.partitions h, names-one p.partitions h) refl

step-one : (s : State) (c : Call ℕ) → NamesSingles c → SameBySets (step sets (state_sets s) (with_sets c)) (step singles s c)
unfolding step
step-one s c h = rw (table-one s c h) (go (first_that_applies (table singles s c)))
  where
    go : (o : Option ℕ) → SameBySets (decided o (serve sets (state_sets s) (with_sets c)) (state_sets s)) (decided o (serve singles s c) s)
    go (some n) = record { reply = refl; state = refl }
    go none = serve-one s c h

-- ---- a list of calls

abbrev every : {R : Type 0} → Call R → Bool
every c = true

run-one : (cs : List (Call ℕ)) (s : State) → All NamesSingles cs
    → state_replies sets every (state_sets s) (map with_sets cs) ≡ state_replies singles every s cs
run-one [] s h = refl
run-one (c ∷ cs) s h =
    let a = step-one s c h.0 in
    ap₂ (λ x l. x ∷ l) a.reply (rw a.state (run-one cs (step singles s c).state h.1))

asked-sets : (cs : List (Call (List ℕ))) → map asked (map with_sets cs) ≡ map with_sets (map asked cs)
asked-sets [] = refl
asked-sets (put who r t fs ∷ cs) = ap (λ l. put who (only_in r) (only_in t) fs ∷ l) (asked-sets cs)
asked-sets (seek op who p t result ∷ cs) = ap (λ l. seek op who (only_in p) t (length result) ∷ l) (asked-sets cs)

asked-singles : (cs : List (Call (List ℕ))) → All NamesSingles cs → All NamesSingles (map asked cs)
asked-singles [] h = tt
asked-singles (put who r t fs ∷ cs) h = (h.0, asked-singles cs h.1)
asked-singles (seek op who p t result ∷ cs) h = (h.0, asked-singles cs h.1)

pub one-partition-each : OnePartitionEach
unfolding give opened
one-partition-each old roster d cs h =
    let o : Opened (opening old roster) roster = open_done old roster d in
    rw o.words
    (replies-lift every every (λ c. refl) (map with_sets cs) (opened roster) o.wf
    ∙ rw (asked-sets cs) (run-one (map asked cs) (opened roster) (asked-singles cs h)))
