-- The watched group, and the claims of isolation (noninterference) and secrecy about every two runs.
use Rattle.std.specs.Prelude.{◌≡◌, ◌⊎◌, Bool, true, false, not, ◌&&◌, ◌||◌, List, [], ◌∷◌, ◌++◌, map, ℕ, ltb, get_or, take}
use Rattle.rules.specs.Lists.{keep, Some}
use Rattle.rules.specs.Names.{Name, key, co_stored}
use Rattle.rules.specs.Partitions.{sets}
use Rattle.rules.specs.Matching.{Pair, stored_pair, Entry, looking, receiving, taking}
use Rattle.rules.specs.State.{State, holds}
use Rattle.rules.specs.Calls.{Call, put, seek, party_of, Answer, done, found, nothing, refused, entry_of}
use Rattle.rules.specs.Words.{decode, asked, call, opening}
use Rattle.rules.specs.Runs.{run, replies, Line, ledger}

-- G3: the group is a set of parties; a party above 7 is in no group
abbrev pub Group : Type 0
Group = ℕ → Bool

unfoldable pub member : Group → ℕ → Bool
member g who = ltb who 8 && g who

-- G3: the call names a member as its party
unfoldable pub by_group : {R : Type 0} → Group → Call R → Bool
by_group g c = member g (party_of c)

-- G4: the group's names are all that its members hold in the state, put together
pub record GroupName (g : Group) (s : State) (n : Name) : Type 0 where
  pub who : ℕ
  pub is_member : member g who ≡ true
  pub held : holds s who n ≡ true

-- G5: the names contain a partition of the pair's set, and the co-key of its key
abbrev pub Reaches : (Name → Type 0) → Pair ℕ → Type 0
Reaches N p = Some N (sets.names p.partitions) × N (key (co_stored p.key))

-- G5: an entry in the group's "grasp": the names, put together, reach one of its pairs
abbrev pub EntryInGrasp : (Name → Type 0) → Entry → Type 0
EntryInGrasp N e = Reaches N e.read_pair ⊎ Reaches N e.take_pair

-- G5, G6: a put or a take in the group's "grasp"; looks and receives never are
abbrev pub CallInGrasp : {R : Type 0} → (Name → Type 0) → Call R → Type 0
CallInGrasp N (put who r t fs) = EntryInGrasp N (entry_of who r t fs)
CallInGrasp N (seek looking who p t result) = ⊥
CallInGrasp N (seek receiving who p t result) = ⊥
CallInGrasp N (seek taking who p t result) = Reaches N (stored_pair p)

abbrev pub unrefused : Answer → Bool
unrefused done = true
unrefused (found n) = true
unrefused nothing = true
unrefused (refused n) = false

-- G7: the premise: along the run, unrefused calls from elsewhere are out of the grasp
abbrev pub OutOfGrasp : Group → (Name → Type 0) → List ℕ → List (Call (List ℕ)) → Type 0
OutOfGrasp g N ws [] = Unit {0}
OutOfGrasp g N ws (c ∷ cs) =
    (by_group g c ≡ false → unrefused (call ws c).answer ≡ true → ¬ (CallInGrasp N c)) × OutOfGrasp g N (call ws c).space cs

-- G4: the group's names at an opening
abbrev pub NamesAt : Group → List ℕ → Name → Type 0
NamesAt g ws = GroupName g (decode ws)

-- G8: the members' partition words and key words are equal
pub record SameHoldings (g : Group) (s₁ s₂ : State) : Type 0 where
  pub same_partitions : (who : ℕ) → member g who ≡ true → get_or s₁.partitions who 0 ≡ get_or s₂.partitions who 0
  pub same_keys : (who : ℕ) → member g who ≡ true → get_or s₁.keys who 0 ≡ get_or s₂.keys who 0

-- G8: the live entries whose writer is a member, oldest first
abbrev pub group_entries : Group → State → List Entry
group_entries g s = keep (λ e. member g e.writer) s.entries

-- G9: at every point of the run, the first i calls made, all that members hold is among the group's names
abbrev pub Inside : Group → List ℕ → List (Call (List ℕ)) → Type 0
Inside g ws cs =
    (i who : ℕ) (n : Name) → member g who ≡ true → holds (decode (run ws (take i cs))) who n ≡ true → NamesAt g ws n

-- G8, G9: what two runs have in common for the group
pub record Isolated (g : Group) (ws₁ ws₂ : List ℕ) (cs₁ cs₂ : List (Call (List ℕ))) : Type 0 where
  pub same_replies : replies (by_group g) ws₁ cs₁ ≡ replies (by_group g) ws₂ cs₂
  pub same_entries : group_entries g (decode (run ws₁ cs₁)) ≡ group_entries g (decode (run ws₂ cs₂))
  pub same_holdings : SameHoldings g (decode (run ws₁ cs₁)) (decode (run ws₂ cs₂))
  pub inside₁ : Inside g ws₁ cs₁
  pub inside₂ : Inside g ws₂ cs₂

-- G1 to G9, demand 3: for every group and every two runs, each from an opening of its own over any old contents, whose openings
-- give each member the same holdings, whose group calls are the same in the same order, and which both keep the premise
abbrev pub Isolation : Type 0
Isolation =
    (g : Group) (old₁ old₂ roster₁ roster₂ : List ℕ)
    → (opening old₁ roster₁).answer ≡ done → (opening old₂ roster₂).answer ≡ done
    → SameHoldings g (decode (opening old₁ roster₁).space) (decode (opening old₂ roster₂).space)
    → (cs₁ cs₂ : List (Call (List ℕ)))
    → keep (by_group g) (map asked cs₁) ≡ keep (by_group g) (map asked cs₂)
    → OutOfGrasp g (NamesAt g (opening old₁ roster₁).space) (opening old₁ roster₁).space cs₁
    → OutOfGrasp g (NamesAt g (opening old₂ roster₂).space) (opening old₂ roster₂).space cs₂
    → Isolated g (opening old₁ roster₁).space (opening old₂ roster₂).space cs₁ cs₂

-- ---- looks from elsewhere

-- C8: the call is a look
abbrev pub is_look : {R : Type 0} → Call R → Bool
is_look (put who r t fs) = false
is_look (seek looking who p t result) = true
is_look (seek receiving who p t result) = false
is_look (seek taking who p t result) = false

-- G3: the calls without the looks that come from elsewhere
abbrev pub less_looks : Group → List (Call (List ℕ)) → List (Call (List ℕ))
less_looks g cs = keep (λ c. by_group g c || not (is_look c)) cs

-- G8, A2: with these looks and without them the group's answers and fields are the same, and so are all words and the ledger
pub record LooksUnfelt (g : Group) (ws : List ℕ) (cs : List (Call (List ℕ))) : Type 0 where
  pub same_replies : replies (by_group g) ws (less_looks g cs) ≡ replies (by_group g) ws cs
  pub same_words : run ws (less_looks g cs) ≡ run ws cs
  pub same_ledger : (ls : List Line) → ledger ws (less_looks g cs) ls ≡ ledger ws cs ls

-- G7: looks from elsewhere are free: whatever they name and whatever they find, nobody can tell that they were made
abbrev pub LooksAreFree : Type 0
LooksAreFree = (g : Group) (ws : List ℕ) (cs : List (Call (List ℕ))) → LooksUnfelt g ws cs

-- ---- secrecy: what a group does out of the others' grasp, the others can't tell

-- G3: the parties 0 to 7 that are not in the group
abbrev pub others : Group → Group
others g who = not (g who)

-- G1: a run: an opening answered "done", over any old contents, and the calls that follow it
pub record Run : Type 0 where
  pub old : List ℕ
  pub roster : List ℕ
  pub opens : (opening old roster).answer ≡ done
  pub calls : List (Call (List ℕ))

-- the words at the beginning of a run, and at its end
abbrev pub start_of : Run → List ℕ
start_of r = (opening r.old r.roster).space

abbrev pub end_of : Run → List ℕ
end_of r = run (start_of r) r.calls

-- G7, the other way round: whatever put or take a member makes in the run and is not refused, is out of the others' grasp
abbrev pub Withheld : Group → Run → Type 0
Withheld g r =
    (before after : List (Call (List ℕ))) (c : Call (List ℕ)) → r.calls ≡ before ++ (c ∷ after)
    → by_group g c ≡ true → unrefused (call (run (start_of r) before) c).answer ≡ true → ¬ (CallInGrasp (NamesAt (others g) (start_of r)) c)

-- G2: the others' calls, in order
abbrev pub others_calls : Group → Run → List (Call ℕ)
others_calls g r = keep (by_group (others g)) (map asked r.calls)

-- G8: the others can't tell the runs apart: by their answers and fields, their live entries, or what they hold
pub record Indistinguishable (g : Group) (r₁ r₂ : Run) : Type 0 where
  pub same_replies : replies (by_group (others g)) (start_of r₁) r₁.calls ≡ replies (by_group (others g)) (start_of r₂) r₂.calls
  pub same_entries : group_entries (others g) (decode (end_of r₁)) ≡ group_entries (others g) (decode (end_of r₂))
  pub same_holdings : SameHoldings (others g) (decode (end_of r₁)) (decode (end_of r₂))

-- G1 to G8: what the others get doesn't depend on the group's calls: two runs may differ in them, and in what members hold, as
-- they like, if in both the group withholds its puts and takes. Nor does it depend on calls that name a party above 7: these
-- belong to neither side, and all of them are refused
abbrev pub Secrecy : Type 0
Secrecy =
    (g : Group) (r₁ r₂ : Run)
    → SameHoldings (others g) (decode (start_of r₁)) (decode (start_of r₂)) → others_calls g r₁ ≡ others_calls g r₂
    → Withheld g r₁ → Withheld g r₂ → Indistinguishable g r₁ r₂
