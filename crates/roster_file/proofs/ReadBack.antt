-- What is printed of a roster reads back as that roster.
use Prim.Native.Nat.{ℕ, ◌+◌, ◌^◌, ◌<◌}
use mathlib.Core.Path.{◌≡◌, refl, sym, ap, ◌∙◌, subst}
use mathlib.Core.Logic.{◌⊎◌, inl, inr}
use mathlib.Core.Bool.{Bool, true, false}
use mathlib.Core.List.{List, [], ◌∷◌, ◌++◌}
use native.Mathlib.Nat.{le_of_suc-le-suc}
use native.Mathlib.Omega.{arith}
use borrow.Author.Tests.{ltb-true, ltb-false}
use lib.Dec.{ltb}
use lib.ListN.{get_or}
use Rattle.rules.specs.Lists.{All, In}
use Rattle.rules.specs.Names.{parties, Name, partition, key, NameInRange, bit}
use Rattle.rules.specs.Words.{zeros, opening}
use Rattle.rules.specs.Claims.{Iff}
use Rattle.rules.proofs.BitLaws.{no-bit}
use Rattle.rules.proofs.ListLaws.{bool, clash, All-at}
use Rattle.roster_line.specs.Rights.{gives, read_line, with_right, word_of, bit_of}
use Rattle.roster_file.specs.File.{accepted, read_lines, names_line, read_file}
use Rattle.roster_file.specs.Printed.{right_text, parties_text, printed, output_of}
use Rattle.roster_file.specs.Claims.{LineGives, GivesRight, EveryRosterReadsBack, OutputReadsBack, AlikeOpensAlike}
use Rattle.roster_file.proofs.Faults.{begun-reads}
use Rattle.roster_file.proofs.GivenRights.{gives_same, line-back}
use Rattle.roster_file.proofs.RosterRights.{has, has-bit, word_low, Good, accepts-good, same-rights}
use Rattle.roster_file.proofs.FileRights.{idle, names-idle, end-idle, file-fill, file-gives, accepted-opens}
use Rattle.rules.proofs.Members.{in_left, append-in, in-from, from_in, All-in}
use Rattle.roster_file.proofs.PrintedLines.{in-names, names_in_lem, names_of, lines_of, LineOf, in_lines, lines-in, parties-parts, printed-parts}
use Rattle.roster_file.proofs.PrintedShort.{printed-short}

-- ---- lines that all give rights

lines-read : (ls : List (List ℕ)) (r : List ℕ) → All GivesRight ls → (s : List ℕ) × (read_lines r (ls ++ ([] ∷ [])) ≡ accepted s)
lines-read [] r h = (r, refl)
lines-read (l ∷ []) r ((who, (n, e)), h) = (with_right who n r, rw e refl)
lines-read (l ∷ m ∷ ls) r ((who, (n, e)), h) = rw e (lines-read (m ∷ ls) (with_right who n r) h)

-- ---- the rights of a roster that an opening accepts are in range

module _ (r : List ℕ) (g : Good r) (who : ℕ) (h : who < 8) where
  right-low : (n : Name) → has r who n ≡ true → bit_of n < 64
  right-low n e = go (bool (ltb (bit_of n) 64))
    where
      go : (ltb (bit_of n) 64 ≡ true) ⊎ (ltb (bit_of n) 64 ≡ false) → bit_of n < 64
      go (inl t) = ltb-true (bit_of n) 64 t
      go (inr t) =
          let w : ℕ = get_or r (word_of who n) 0 in
          let l : w < 2 ^ 64 = All-at (λ w. w < 2 ^ 64) r g.words (word_of who n) (rw g.sixteen (word_low who n h)) in
          clash (bit w (bit_of n)) (sym (has-bit r who n) ∙ e) (sym (no-bit 64 w (bit_of n) l (ltb-false (bit_of n) 64 t)))

  right-range : (n : Name) → has r who n ≡ true → NameInRange n
  right-range (partition c) e = le_of_suc-le-suc (right-low (partition c) e)
  right-range (key s) e = let l = right-low (key s) e in let k : s ≡ 63 → ⊥ = λ q. clash (has r who (key s)) e (rw q (g.clear who h)) in omega (arith, k)

-- ---- the lines that are printed of it give its rights

module _ (r : List ℕ) (g : Good r) where
  line_low : (line : List ℕ) (o : LineOf r parties line) → o.who < 8
  line_low line o = from_in o.who 0 8 o.party

  line-held : (line : List ℕ) (o : LineOf r parties line) → has r o.who o.name ≡ true
  line-held line o = (names_in_lem (get_or r o.who 0) (get_or r (8 + o.who) 0) o.name o.held).1

  right-back : (who : ℕ) (n : Name) → who < 8 → has r who n ≡ true → read_line (right_text who n) ≡ gives who n
  right-back who n h e = line-back who n (le_of_suc-le-suc h) (right-range r g who h n e)

  line_gives : (line : List ℕ) (o : LineOf r parties line) → read_line line ≡ gives o.who o.name
  line_gives line o = ap read_line (sym o.text) ∙ right-back o.who o.name (line_low line o) (line-held line o)

  lines-give : All GivesRight (lines_of r parties)
  lines-give = All-in GivesRight (lines_of r parties) (λ line i. give line (lines-in r parties line i))
    where
      give : (line : List ℕ) → LineOf r parties line → GivesRight line
      give line o = (o.who, (o.name, line_gives line o))

  printed-gives : (who : ℕ) (n : Name) → who < 8 → Iff (LineGives (printed r) who n) (has r who n ≡ true)
  printed-gives who n h = (λ x. there x.0 (subst (In x.0) (printed-parts r) x.1.0) x.1.1, back)
    where
      ls : List (List ℕ)
      ls = lines_of r parties

      there : (line : List ℕ) → In line (names_line ∷ (ls ++ ([] ∷ []))) → read_line line ≡ gives who n → has r who n ≡ true
      there line (inl q) y = absurd (idle names_line 11 who n names-idle (ap read_line q ∙ y))
      there line (inr i) y = go (append-in line ls ([] ∷ []) i)
        where
          go : In line ls ⊎ In line ([] ∷ []) → has r who n ≡ true
          go (inl j) =
              let o : LineOf r parties line = lines-in r parties line j in
              let z = gives_same o.who who o.name n (sym (line_gives line o) ∙ y) in
              rw (sym z.0, sym z.1) (line-held line o)
          go (inr (inl q)) = absurd (idle [] 11 who n end-idle (ap read_line q ∙ y))
          go (inr (inr j)) = absurd j

      back : has r who n ≡ true → LineGives (printed r) who n
      back e =
          let i : In n (names_of r who) = in-names (get_or r who 0) (get_or r (8 + who) 0) n (right-low r g who h n e) e in
          let j : In (right_text who n) ls = in_lines r parties who n (in-from who 0 8 (omega arith) h) i in
          (right_text who n, (subst (In (right_text who n)) (sym (printed-parts r)) (inr (in_left (right_text who n) ls ([] ∷ []) j)), right-back who n h e))

-- ---- so it reads back

printed-reads : (r : List ℕ) → read_file (printed r) ≡ read_lines (zeros 16) (lines_of r parties ++ ([] ∷ []))
unfolding printed
printed-reads r =
    let l = printed-short r in
    let rest : List ℕ = parties_text r parties in
    begun-reads (printed r) rest (record { short = omega arith; begins = refl }) ∙ ap (read_lines (zeros 16)) (parties-parts r parties)

iff-same : (a b : Bool) → Iff (a ≡ true) (b ≡ true) → a ≡ b
iff-same true b e = sym (e.0 refl)
iff-same false true e = e.1 refl
iff-same false false e = refl

pub every-roster-reads-back : EveryRosterReadsBack
unfolding output_of
every-roster-reads-back roster a = (reads, ap output_of reads)
  where
    g : Good roster
    g = accepts-good roster a

    some-roster : (s : List ℕ) × (read_lines (zeros 16) (lines_of roster parties ++ ([] ∷ [])) ≡ accepted s)
    some-roster = lines-read (lines_of roster parties) (zeros 16) (lines-give roster g)

    s : List ℕ
    s = some-roster.0

    e : read_file (printed roster) ≡ accepted s
    e = printed-reads roster ∙ some-roster.1

    rights : (who : ℕ) (n : Name) → who < 8 → has s who n ≡ has roster who n
    rights who n h =
        let f = file-gives (printed roster) s e who n h in
        let p = printed-gives roster g who n h in
        iff-same (has s who n) (has roster who n) (λ t. p.0 (f.0 t), λ t. f.1 (p.1 t))

    reads : read_file (printed roster) ≡ accepted roster
    reads = e ∙ ap accepted (same-rights s roster (file-fill (printed roster) s e).good g rights)

pub output-reads-back : OutputReadsBack
unfolding output_of
output-reads-back file roster e = rw e (every-roster-reads-back roster (accepted-opens file roster e).0)

pub alike-opens-alike : AlikeOpensAlike
unfolding output_of
alike-opens-alike f g r s e e' q = (same, λ ws. ap (opening ws) same)
  where
    printed-alike : printed r ≡ printed s
    printed-alike = sym (ap output_of e) ∙ q ∙ ap output_of e'

    both : accepted r ≡ accepted s
    both =
        sym (every-roster-reads-back r (accepted-opens f r e).0).0 ∙ ap read_file printed-alike
        ∙ (every-roster-reads-back s (accepted-opens g s e').0).0

    same : r ≡ s
    same = let z : accepted r ≡ accepted s = both in cc
