-- A short result and a missing name: the tests of names come before that of the result's length, which comes last.
use mathlib.Core.Path.{◌≡◌, refl, sym, ◌∙◌}
use mathlib.Core.Logic.{inl, inr}
use mathlib.Core.Bool.{Bool, true, false, not}
use mathlib.Core.Option.{Option, none, some}
use mathlib.Core.List.{List, [], ◌∷◌}
use Prim.Native.Nat.{ℕ, ◌≤◌}
use native.Mathlib.Nat.{le_refl}
use native.Mathlib.Omega.{arith}
use borrow.Author.Tests.{lt-ltb, le-ltb, ltb-true, ltb-false}
use lib.Dec.{ltb}
use lib.IntN.{ℤ}
use lib.ListN.{length}
use Rattle.rules.specs.Lists.{all, All, In}
use Rattle.rules.specs.Partitions.{sets}
use Rattle.rules.specs.Fields.{template_field}
use Rattle.rules.specs.Matching.{Pair, stored_pair, Op}
use Rattle.rules.specs.State.{holds}
use Rattle.rules.specs.Calls.{Call, put, seek, refused, Table, first_that_applies, name_tests, short_test, seek_tests}
use Rattle.rules.specs.Words.{decode, sound, asked, Exit, call, refusals}
use Rattle.rules.specs.Claims.{Passes, used_names, OnlyShort, SixExactlyIfOnlyShort}
use Rattle.rules.specs.Earlier.{short_first, ShortAndLacking, Moves, NamesFirst, NamesComeFirst}
use Rattle.rules.proofs.ListLaws.{clash, not-false, passed}
use Rattle.rules.proofs.NameTests.{numbers, refused-in, NamesSay, names-say}
use Rattle.rules.proofs.Tables.{either, in_order, either-after, neither, first-within, applies-first, six, seek-order}
use Rattle.rules.proofs.Decided.{call_by, by-table, call-by}
use Rattle.rules.proofs.Demand1.{first-refusal-decides}

not-six : (n : ℕ) → In n numbers → ¬ (n ≡ 6)
not-six n (inl i) e = omega arith
not-six n (inr (inl i)) e = omega arith
not-six n (inr (inr (inl i))) e = omega arith
not-six n (inr (inr (inr i))) e = elim i [ ]

-- the same exit, of a call that doesn't move
alike : (moves : Type 0) (x : Exit) → ¬ moves → NamesFirst moves x x
alike moves x n =
    record { differs = (λ d. absurd (d refl), λ m. absurd (n m)); was = λ m. absurd (n m); is = λ m. absurd (n m); space = refl; result = refl }

module _ (ws : List ℕ) (op : Op) (who : ℕ) (p : Pair ℤ) (t : List ℕ) where
  -- the table's three parts: R1 to R5, the tests of names, and R6
  abbrev five : Table
  five = (not (sound ws), 1) ∷ seek_tests sets [] who p t

  abbrev names : Table
  names = name_tests sets (decode ws) who (stored_pair p ∷ []) t

  abbrev held : Bool
  held = all (holds (decode ws) who) (used_names (stored_pair p ∷ []) t)

  abbrev is_short : List ℕ → Bool
  is_short result = ltb (length result) (length t)

  now-is : (result : List ℕ)
      → first_that_applies (refusals ws (seek op who p t result)) ≡ either (first_that_applies five) (either (first_that_applies names) (six (is_short result)))
  now-is result = rw (seek-order (decode ws) who p t (length result)) (either-after (not (sound ws)) 1 (first_that_applies (seek_tests sets [] who p t)) _)

  before-is : (result : List ℕ)
      → first_that_applies ((not (sound ws), 1) ∷ short_first (decode ws) (asked (seek op who p t result)))
      ≡ either (first_that_applies five) (either (six (is_short result)) (first_that_applies names))
  before-is result = in_order five (short_test t (length result)) names

  five-passed : {result : List ℕ} → ShortAndLacking ws who p t result → first_that_applies five ≡ none
  five-passed h = rw (h.one, le-ltb 7 who h.two, h.three, h.four, h.five) refl

  -- what holds where R1 to R5 don't apply
  moves : (result : List ℕ) → first_that_applies five ≡ none → is_short result ≡ true → held ≡ false → ShortAndLacking ws who p t result
  moves result e b h =
      let a : All (λ x. x.0 ≡ false) five = passed five e in
      record {
        one = not-false (sound ws) a.0;
        two = ltb-false 7 who a.1.0;
        three = a.1.1.0;
        four = a.1.1.1.0;
        five = not-false (all template_field t) a.1.1.1.1.0;
        short = ltb-true (length result) (length t) b;
        lacking = h;
      }

  module _ (result : List ℕ) where
    abbrev c : Call (List ℕ)
    c = seek op who p t result

    -- by what R1 to R5 say, and the names, and whether the result is short
    abbrev Says : Option ℕ → Option ℕ → Bool → Type 0
    Says f n b = NamesFirst (Moves ws c) (call_by (either f (either n (six b))) ws c) (call_by (either f (either (six b) n)) ws c)

    long : (n : Option ℕ) → ¬ (Moves ws c) → Says none n false
    long none still = alike _ _ still
    long (some n) still = alike _ _ still

    short : (b : Bool) → held ≡ b → NamesSay b (first_that_applies names) → first_that_applies five ≡ none → is_short result ≡ true
        → Says none (first_that_applies names) true
    short true h say e s = rw say (alike _ _ (λ m. clash held h m.lacking))
    short false h say e s =
        rw say.1.0
        (record {
          differs = (λ d. moves result e s h, λ m d. not-six say.0 say.1.1 cc);
          was = λ m. refl;
          is = λ m. refused-in say.0 say.1.1;
          space = refl;
          result = refl;
        })

    by_length : (b : Bool) → is_short result ≡ b → first_that_applies five ≡ none → Says none (first_that_applies names) b
    by_length true s e = short held refl (names-say (decode ws) who (stored_pair p ∷ []) t) e s
    by_length false s e = long (first_that_applies names) (λ m. clash (is_short result) (lt-ltb (length result) (length t) m.short) s)

    by-five : (f : Option ℕ) → first_that_applies five ≡ f → Says f (first_that_applies names) (is_short result)
    by-five none e = by_length (is_short result) refl e
    by-five (some n) e = alike _ _ (λ m. let q : none ≡ some n = sym (five-passed m) ∙ e in let z : ◌≡◌ {A = ℕ} 0 1 = cc in omega arith)

  -- ---- R6 comes last

  passes-parts : (result : List ℕ) → Passes ws (seek op who p t result) → (first_that_applies five ≡ none) × (first_that_applies names ≡ none)
  passes-parts result e = neither (first_that_applies five) (first_that_applies names) (six (is_short result)) (sym (now-is result) ∙ e)

  -- where 6 decides, no other test applies
  six-decides : (result : List ℕ) → first_that_applies (refusals ws (seek op who p t result)) ≡ some 6
      → (first_that_applies five ≡ none) × ((first_that_applies names ≡ none) × (is_short result ≡ true))
  six-decides result e = by-five-six (first_that_applies five) refl (sym (now-is result) ∙ e)
    where
      by-length-six : (b : Bool) → either none (six b) ≡ some 6 → b ≡ true
      by-length-six true q = refl
      by-length-six false q = let z : ◌≡◌ {A = ℕ} 0 1 = cc in absurd (omega arith)

      by_names : (b : Bool) → NamesSay b (first_that_applies names) → either (first_that_applies names) (six (is_short result)) ≡ some 6
          → (first_that_applies names ≡ none) × (is_short result ≡ true)
      by_names true say q = (say, by-length-six (is_short result) (rw say at q))
      by_names false say q = let r : some say.0 ≡ some 6 = rw say.1.0 at q in absurd (not-six say.0 say.1.1 cc)

      by-five-six : (f : Option ℕ) → first_that_applies five ≡ f → either f (either (first_that_applies names) (six (is_short result))) ≡ some 6
          → (first_that_applies five ≡ none) × ((first_that_applies names ≡ none) × (is_short result ≡ true))
      by-five-six none q r = (q, by_names held (names-say (decode ws) who (stored_pair p ∷ []) t) r)
      by-five-six (some n) q r =
          let l : n ≤ 5 = first-within 5 five n (omega arith, (omega arith, (omega arith, (omega arith, (omega arith, tt))))) q in
          let k : n ≡ 6 = cc in
          absurd (omega arith)

pub names-come-first : NamesComeFirst
names-come-first ws (put who r t fs) = rw (by-table short_first ws (put who r t fs), call-by ws (put who r t fs)) (alike _ _ (λ m. m))
names-come-first ws (seek op who p t result) =
    let c : Call (List ℕ) = seek op who p t result in
    rw (call-by ws c, now-is ws op who p t result, by-table short_first ws c, before-is ws op who p t result)
    (by-five ws op who p t result (first_that_applies (five ws op who p t)) refl)

pub six-exactly-if-only-short : SixExactlyIfOnlyShort
six-exactly-if-only-short ws op who p t result = (there, back)
  where
    c : Call (List ℕ)
    c = seek op who p t result

    there : (call ws c).answer ≡ refused 6 → OnlyShort ws op who p t result
    there e =
        let a = six-decides ws op who p t result (applies-first (refusals ws c) 6 ((first-refusal-decides ws c 6).0 e)) in
        record {
          short = ltb-true (length result) (length t) a.1.1;
          otherwise = λ lent l. now-is ws op who p t lent ∙ rw (a.0, a.1.0, le-ltb (length lent) (length t) l) refl;
        }

    back : OnlyShort ws op who p t result → (call ws c).answer ≡ refused 6
    back h =
        let a = passes-parts ws op who p t t (h.otherwise t (le_refl (length t))) in
        rw (call-by ws c, now-is ws op who p t result, a.0, a.1, lt-ltb (length result) (length t) h.short) refl
