-- What a look, receive or take comes to: refused, none, or the oldest match with its fields.
use Prim.Native.Nat.{ℕ, zero, suc, ◌+◌, ◌*◌, ◌<◌}
use mathlib.Core.Path.{◌≡◌, refl, sym, ap, ap₂, ◌∙◌}
use mathlib.Core.Bool.{true, not}
use mathlib.Core.Option as rule
use mathlib.Core.List.{List, [], ◌∷◌, ◌++◌}
use native.Mathlib.Omega.{arith}
use borrow.Author.Tests.{eqb-true}
use lib.Dec.{eqb}
use lib.IntN.{ℤ}
use lib.ListN.{length, get_or, take, drop}
use lib.Seq.{drop-drop}
use Rattle.std.specs.Prelude.{Option, Some, None, Result, Ok, Err}
use Rattle.std.specs.Option.{option_and}
use Rattle.rules.specs.Lists.{first}
use Rattle.rules.specs.Names.{Name, partition, key}
use Rattle.rules.specs.Partitions.{sets}
use Rattle.rules.specs.Fields.{names_in}
use Rattle.rules.specs.Matching.{Pair, stored_pair, Entry, Op, looking, receiving, taking, matches}
use Rattle.rules.specs.State.{State, give, give_all, with_entries}
use Rattle.rules.specs.Calls.{seek, Answer, found, nothing, Table, first_that_applies, seek_table, remaining, gained}
use Rattle.rules.specs.Words.{row_start, encode, entry_at, decode, sound, Exit, exit, call, refusals}
use Rattle.rules.specs.Claims.{Passes}
use Rattle.rules.proofs.ListLaws.{and_left}
use Rattle.rules.proofs.Rows.{WF, sound-encode}
use Rattle.rules.proofs.Gifts.{give_all-entries}
use Rattle.rules.proofs.Kept.{names_in-ok, wf-give_all, few-rows}
use Rattle.rules.proofs.Back.{sound-facts, wf-decode, encode-decode, decode-len}
use Rattle.rules.proofs.Edits.{entry-at}
use Rattle.rules.proofs.WordRuns.{back}
use Rattle.rules.proofs.Decided.{call-by, passes-call, passes-sound}
use Rattle.search.specs.Place.{place}
use Rattle.search.proofs.Places.{PlaceFound, place_found, place_none}
use Rattle.space.specs.Answers.{found_meant, answered, sought_by, sought_in, fields_at, written, granted}
use Rattle.space.proofs.Passed.{SeekPassed, seek-passed}

take_own : (k : ℕ) (l : List ℕ) → take (length (take k l)) l ≡ take k l
take_own zero l = refl
take_own (suc k) [] = refl
take_own (suc k) (x ∷ l) = ap (λ (r : List ℕ). x ∷ r) (take_own k l)

-- what was sought, by the table and the place
module _ (ws : List ℕ) (op : Op) (who : ℕ) (p : Pair ℤ) (t : List ℕ) (room : ℕ) where
  abbrev Whole : Table
  Whole = (not (sound ws), 1) ∷ seek_table sets (decode ws) who p t room

  pub sought-refused : (n : ℕ) → first_that_applies Whole ≡ rule.some n → Err n ≡ sought_in ws op who p t room
  unfolding sought_in
  sought-refused n e = rw e refl

  pub sought-placed : first_that_applies Whole ≡ rule.none → (f : Option ℕ) → f ≡ place (matches sets op (stored_pair p) t) (decode ws).entries
      → Ok f ≡ sought_in ws op who p t room
  unfolding sought_in
  sought-placed e f q = rw e (ap (λ (f : Option ℕ). Ok f) q)

module _ (ws : List ℕ) (op : Op) (who : ℕ) (p : Pair ℤ) (t result : List ℕ) where
  record Hit (r : ℕ) : Type 0 where
    pub passes : Passes ws (seek op who p t result)
    pub place : PlaceFound (matches sets op (stored_pair p) t) (decode ws).entries r

  -- the answer and the result by what was sought, with the words that the space has then
  abbrev ended : Result (Option ℕ) ℕ → List ℕ → Exit
  ended s left = exit (answered s (length t)) left (written s (length t) ws result)

  -- an answer and a result that are those
  pub ending : (s : Result (Option ℕ) ℕ) (x : Answer) (left last : List ℕ) → x ≡ answered s (length t) → last ≡ written s (length t) ws result
      → exit x left last ≡ ended s left
  ending s x left last = ap₂ (λ (x : Answer) (last : List ℕ). exit x left last)

  -- the same where the party gains the names found, before an entry is removed
  abbrev obtained : Result (Option ℕ) ℕ → Exit
  obtained s = ended s (granted s who (length t) ws)

  pub obtaining : (s : Result (Option ℕ) ℕ) (x : Answer) (left last : List ℕ) → x ≡ answered s (length t) → left ≡ granted s who (length t) ws
      → last ≡ written s (length t) ws result → exit x left last ≡ obtained s
  obtaining s x left last a g w = ending s x left last a w ∙ ap (ended s) g

  -- by what was sought: the whole call where no entry was found, or what is known of the one found
  abbrev Came : Result (Option ℕ) ℕ → Type 0
  Came (Ok (Some r)) = Hit r
  Came (Ok None) = ended (Ok None) ws ≡ call ws (seek op who p t result)
  Came (Err n) = ended (Err n) ws ≡ call ws (seek op who p t result)

  none_came : Passes ws (seek op who p t result) → first (matches sets op (stored_pair p) t) (decode ws).entries ≡ rule.none
      → call ws (seek op who p t result) ≡ exit nothing ws result
  none_came e f =
      passes-call ws (seek op who p t result) e
      ∙ rw (f, encode-decode ws (passes-sound ws (seek op who p t result) e)) refl

  came-by : (o : rule.Option ℕ) → first_that_applies (refusals ws (seek op who p t result)) ≡ o
      → (f : Option ℕ) → place (matches sets op (stored_pair p) t) (decode ws).entries ≡ f → Came (sought_by o f)
  came-by (rule.some n) e f q = sym (call-by ws (seek op who p t result) ∙ rw e refl)
  came-by rule.none e (Some r) q = record { passes = e; place = place_found (matches sets op (stored_pair p) t) (decode ws).entries r q }
  came-by rule.none e None q = sym (none_came e (place_none (matches sets op (stored_pair p) t) (decode ws).entries q))

  came : (s : Result (Option ℕ) ℕ) → s ≡ sought_in ws op who p t (length result) → Came s
  unfolding sought_in
  came s e = rw e (came-by (first_that_applies (refusals ws (seek op who p t result))) refl (place (matches sets op (stored_pair p) t) (decode ws).entries) refl)

  -- no entry found
  pub none-call : Ok None ≡ sought_in ws op who p t (length result) → obtained (Ok None) ≡ call ws (seek op who p t result)
  none-call e = came (Ok None) e

  pub refused-call : (n : ℕ) → Err n ≡ sought_in ws op who p t (length result) → obtained (Err n) ≡ call ws (seek op who p t result)
  refused-call n e = came (Err n) e

  -- the entry found, in row r
  module _ (r : ℕ) (h : Hit r) where
    below : r < get_or ws 0 0
    below = omega (arith, h.place.below, decode-len ws)

    entry-is : h.place.entry ≡ entry_at (drop (14 * r) (drop 17 ws))
    entry-is = let a = entry-at ws r below in let b = h.place.at in cc

    count-is : length h.place.entry.fields ≡ length t
    unfolding matches
    count-is = sym (eqb-true (length t) (length h.place.entry.fields) (and_left (eqb (length t) (length h.place.entry.fields)) _ h.place.matched))

    -- the fields as the code copies them
    fields-are : fields_at r (length t) ws ≡ h.place.entry.fields
    fields-are =
        let row : List ℕ = drop (14 * r) (drop 17 ws) in
        let k : ℕ = get_or row 5 0 in
        let e : h.place.entry.fields ≡ take k (drop 6 row) = ap (λ (x : Entry). x.fields) entry-is in
        let at : drop 6 row ≡ drop (row_start r + 6) ws = ap (drop 6) (drop-drop (14 * r) 17 ws) ∙ drop-drop 6 (row_start r) ws in
        let n : length t ≡ length (take k (drop 6 row)) = sym count-is ∙ ap length e in
        rw (← at, n) (take_own k (drop 6 row) ∙ sym e)

    -- the whole call
    hit-call :
        call ws (seek op who p t result)
        ≡ exit (found (length t))
        (encode (give_all who (gained op h.place.entry)
        (with_entries (remaining op (matches sets op (stored_pair p) t) (decode ws).entries) (decode ws))))
        (h.place.entry.fields ++ drop (length t) result)
    hit-call = passes-call ws (seek op who p t result) h.passes ∙ rw (h.place.found, ← count-is) refl

  module _ (r : ℕ) (e : Ok (Some r) ≡ sought_in ws op who p t (length result)) where
    -- the row found is one of the 128
    pub found-low : r < 128
    found-low = let h = came (Ok (Some r)) e in omega (arith, below r h, (sound-facts ws (passes-sound ws (seek op who p t result) h.passes)).count)

    -- a call that finds has passed its tests
    pub found_passed : SeekPassed ws who p t (length result)
    found_passed = seek-passed ws who p t (length result) (came (Ok (Some r)) e).passes

module _ (ws : List ℕ) (who : ℕ) (p : Pair ℤ) (t result : List ℕ) where
  -- a look ends with the search
  pub look-call : (s : Result (Option ℕ) ℕ) → s ≡ sought_in ws looking who p t (length result)
      → ended ws looking who p t result s ws ≡ call ws (seek looking who p t result)
  look-call (Ok (Some r)) e =
      let h = came ws looking who p t result (Ok (Some r)) e in
      rw (fields-are ws looking who p t result r h)
      (ap (λ (left : List ℕ). exit (found (length t)) left (h.place.entry.fields ++ drop (length t) result))
      (sym (encode-decode ws (passes-sound ws (seek looking who p t result) h.passes)))
      ∙ sym (hit-call ws looking who p t result r h))
  look-call (Ok None) e = came ws looking who p t result (Ok None) e
  look-call (Err n) e = came ws looking who p t result (Err n) e

  -- a receive ends with the names gained
  pub receive-call : (s : Result (Option ℕ) ℕ) → s ≡ sought_in ws receiving who p t (length result)
      → obtained ws receiving who p t result s ≡ call ws (seek receiving who p t result)
  receive-call (Ok (Some r)) e =
      let h = came ws receiving who p t result (Ok (Some r)) e in
      rw (fields-are ws receiving who p t result r h) (sym (hit-call ws receiving who p t result r h))
  receive-call (Ok None) e = came ws receiving who p t result (Ok None) e
  receive-call (Err n) e = came ws receiving who p t result (Err n) e

-- the entries changed after a gift of names, or before it
give-with : (who : ℕ) (n : Name) (es : List Entry) (s : State) → with_entries es (give who n s) ≡ give who n (with_entries es s)
unfolding give
give-with who (partition c) es s = refl
give-with who (key k) es s = refl

give_all-with : (who : ℕ) (ns : List Name) (es : List Entry) (s : State) → with_entries es (give_all who ns s) ≡ give_all who ns (with_entries es s)
give_all-with who [] es s = refl
give_all-with who (n ∷ ns) es s = give_all-with who ns es (give who n s) ∙ ap (give_all who ns) (give-with who n es s)

-- the count of the fields, where an entry was found
pub counted : (o : Option ℕ) (n : ℕ) → found_meant (Ok (option_and o (Some n))) ≡ answered (Ok o) n
counted None n = refl
counted (Some x) n = refl

-- a take: the row found is removed from the words in which the names are gained
module _ (ws : List ℕ) (who : ℕ) (p : Pair ℤ) (t result : List ℕ) where
  pub record Removable (r : ℕ) (left last : List ℕ) : Type 0 where
    pub is_sound : sound left ≡ true
    pub below : r < get_or left 0 0
    pub removed :
        exit (found (length t)) (encode (with_entries (take r (decode left).entries ++ drop (suc r) (decode left).entries) (decode left))) last
        ≡ call ws (seek taking who p t result)

  pub removable : (r : ℕ) (left last : List ℕ) → Ok (Some r) ≡ sought_in ws taking who p t (length result)
      → left ≡ granted (Ok (Some r)) who (length t) ws → last ≡ written (Ok (Some r)) (length t) ws result → Removable r left last
  removable r left last e g w = rw (g, w) (go (came ws taking who p t result (Ok (Some r)) e))
    where
      names : List Name
      names = names_in (fields_at r (length t) ws)

      gifted : State
      gifted = give_all who names (decode ws)

      go : Hit ws taking who p t result r → Removable r (encode gifted) (fields_at r (length t) ws ++ drop (length t) result)
      go h =
          let wf : WF (decode ws) = wf-decode ws (passes-sound ws (seek taking who p t result) h.passes) in
          let w : WF gifted = wf-give_all who names (decode ws) (names_in-ok (fields_at r (length t) ws)) wf in
          let same : decode (encode gifted) ≡ gifted = back gifted w in
          let entries : gifted.entries ≡ (decode ws).entries = give_all-entries who names (decode ws) in
          let l : length (decode (encode gifted)).entries ≡ length (decode ws).entries = rw (same, entries) refl in
          record {
            is_sound = sound-encode gifted w (few-rows gifted w);
            below = omega (arith, h.place.below, decode-len (encode gifted));
            removed = rw (same, entries, give_all-with, ← h.place.removed, fields-are ws taking who p t result r h) (sym (hit-call ws taking who p t result r h));
          }
