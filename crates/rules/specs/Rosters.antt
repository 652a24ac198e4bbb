-- What rosters list: what a party sees by it, a group's names, what is out of the group's grasp for the partitions it names, and the
-- rosters of stations that were set up while an opening gave everyone partition 0.
use Rattle.std.specs.Prelude.{◌≡◌, ◌⊎◌, true, false, List, ◌∷◌, ◌++◌, map, ℕ, ◌+◌, ◌^◌, ◌≤◌, ◌<◌, ℤ, get_or, take, drop}
use Rattle.rules.specs.Lists.{keep, In}
use Rattle.rules.specs.Names.{Name, partition, key, default_partition, default_key, common_names, bit, with_bit, held_in}
use Rattle.rules.specs.Partitions.{only}
use Rattle.rules.specs.Matching.{Pair, Op, looking, receiving, taking, pair_for}
use Rattle.rules.specs.State.{State, holds, everyone_holds}
use Rattle.rules.specs.Calls.{Call, put, seek, party_of, done, found, opened_with}
use Rattle.rules.specs.Words.{encode, decode, asked, call, opening}
use Rattle.rules.specs.Runs.{run}
use Rattle.rules.specs.Group.{Group, member, by_group, CallInGrasp, unrefused, NamesAt, SameHoldings, Isolated, Run, start_of}
use Rattle.rules.specs.Claims.{Iff, OldestMatch}

-- ---- what a party sees

-- the party holds a partition of the set
pub record HoldsOneOf (s : State) (who set : ℕ) : Type 0 where
  pub one : ℕ
  pub in_set : bit set one ≡ true
  pub held : holds s who (partition one) ≡ true

-- C6, M3: what a party finds stands in a partition that it held when it asked, by the pair that counts
abbrev pub FoundWhereHeld : Type 0
FoundWhereHeld =
    (ws : List ℕ) (op : Op) (who : ℕ) (p : Pair ℤ) (t result : List ℕ) (n : ℕ) → (call ws (seek op who p t result)).answer ≡ found n
    → (m : OldestMatch ws op p t result n (call ws (seek op who p t result)).result)
    → HoldsOneOf (decode ws) who (pair_for op m.entry).partitions

-- N6: the sets that the call names are words of 64 bits
abbrev pub NamesWords : {R : Type 0} → Call R → Type 0
NamesWords (put who r t fs) = (r.partitions < 2 ^ 64) × (t.partitions < 2 ^ 64)
NamesWords (seek op who p t result) = p.partitions < 2 ^ 64

-- C6: a party that holds no partition is refused whatever it asks
abbrev pub NoPartitionNoCall : Type 0
NoPartitionNoCall =
    (ws : List ℕ) (c : Call (List ℕ)) → NamesWords c → ((k : ℕ) → k ≤ 63 → holds (decode ws) (party_of c) (partition k) ≡ false)
    → unrefused (call ws c).answer ≡ false

-- ---- a group's names

-- G3: the group has a member
pub record HasMember (g : Group) : Type 0 where
  pub who : ℕ
  pub is_member : member g who ≡ true

-- G4: a member's words of the roster list the name
pub record Listed (g : Group) (roster : List ℕ) (n : Name) : Type 0 where
  pub who : ℕ
  pub is_member : member g who ≡ true
  pub lists : held_in (get_or roster who 0) (get_or roster (8 + who) 0) n ≡ true

-- G4: the names are those that the members' rosters list, and the common ones: so key 0 always, and a partition, 0 or any other, only
-- if it is listed
pub record NamesOf (g : Group) (roster : List ℕ) (N : Name → Type 0) : Type 0 where
  pub names : (n : Name) → Iff (N n) (Listed g roster n ⊎ (HasMember g × In n common_names))
  pub key_zero : HasMember g → N (key default_key)
  pub partitions : (c : ℕ) → Iff (N (partition c)) (Listed g roster (partition c))

abbrev pub GroupNames : Type 0
GroupNames =
    (g : Group) (old roster : List ℕ) → (opening old roster).answer ≡ done → NamesOf g roster (NamesAt g (opening old roster).space)

-- ---- calls that name none of a group's partitions

-- N6, G10: no partition of the set is among the names
abbrev pub Avoids : (Name → Type 0) → ℕ → Type 0
Avoids N set = (c : ℕ) → c ≤ 63 → bit set c ≡ true → ¬ (N (partition c))

-- G5, G6, G10: both sets of a put, and the set of a take, avoid the names; looks and receives may name what they like
abbrev pub CallAvoids : {R : Type 0} → (Name → Type 0) → Call R → Type 0
CallAvoids N (put who r t fs) = Avoids N r.partitions × Avoids N t.partitions
CallAvoids N (seek looking who p t result) = Unit {0}
CallAvoids N (seek receiving who p t result) = Unit {0}
CallAvoids N (seek taking who p t result) = Avoids N p.partitions

-- N2: the call names partition 0 and no other
abbrev pub InDefault : {R : Type 0} → Call R → Type 0
InDefault (put who r t fs) = (r.partitions ≡ only default_partition) × (t.partitions ≡ only default_partition)
InDefault (seek op who p t result) = p.partitions ≡ only default_partition

-- G10: what avoids the names is out of the grasp, whatever its keys; among that is whatever names partition 0 alone
pub record OutOfReach (N : Name → Type 0) : Type 0 where
  pub avoiding : (c : Call (List ℕ)) → CallAvoids N c → ¬ (CallInGrasp N c)
  pub in_default : (c : Call (List ℕ)) → InDefault c → ¬ (CallInGrasp N c)

-- G10: a group none of whose members is given partition 0 is not reached through it
abbrev pub DefaultNotReached : Type 0
DefaultNotReached =
    (g : Group) (old roster : List ℕ) → (opening old roster).answer ≡ done → ¬ (Listed g roster (partition default_partition))
    → OutOfReach (NamesAt g (opening old roster).space)

-- G7: whatever put or take comes from elsewhere in the run and is not refused, avoids the partitions that members' rosters list
abbrev pub ElsewhereAvoids : Group → Run → Type 0
ElsewhereAvoids g r =
    (before after : List (Call (List ℕ))) (c : Call (List ℕ)) → r.calls ≡ before ++ (c ∷ after)
    → by_group g c ≡ false → unrefused (call (run (start_of r) before) c).answer ≡ true → CallAvoids (Listed g r.roster) c

-- G8, G9: isolation, with a premise that can be read off the rosters and the sets that others name. For a group without partition 0,
-- its neighbours' calls in partition 0 keep it
abbrev pub IsolationByPartitions : Type 0
IsolationByPartitions =
    (g : Group) (r₁ r₂ : Run)
    → SameHoldings g (decode (start_of r₁)) (decode (start_of r₂))
    → keep (by_group g) (map asked r₁.calls) ≡ keep (by_group g) (map asked r₂.calls)
    → ElsewhereAvoids g r₁ → ElsewhereAvoids g r₂ → Isolated g (start_of r₁) (start_of r₂) r₁.calls r₂.calls

-- ---- stations as they were

-- C1: the common names as they were: partition 0 was one
abbrev pub common_before : List Name
common_before = partition default_partition ∷ common_names

-- L2: the roster, with partition 0 listed for everyone
abbrev pub listing_default : List ℕ → List ℕ
listing_default roster = map (λ w. with_bit w default_partition) (take 8 roster) ++ drop 8 roster

-- C1, S4: with partition 0 listed for everyone, an opening leaves the words that it left by the roster before, and at every point of
-- the run after it everyone holds what a sound space asked for before
pub record SameStation (old roster : List ℕ) : Type 0 where
  pub opens : (opening old (listing_default roster)).answer ≡ done
  pub words : (opening old (listing_default roster)).space ≡ encode (opened_with common_before roster)
  pub sound_before : (cs : List (Call (List ℕ))) → everyone_holds common_before (decode (run (opening old (listing_default roster)).space cs)) ≡ true

abbrev pub AsBefore : Type 0
AsBefore = (old roster : List ℕ) → (opening old roster).answer ≡ done → SameStation old roster
