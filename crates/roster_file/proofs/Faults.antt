-- When a line and a file are refused: a line by what it is, a file by its start or else by its first faulty line.
use Prim.Native.Nat.{ℕ, ◌≤◌}
use mathlib.Core.Path.{◌≡◌, refl, sym, ap, ◌∙◌}
use mathlib.Core.Logic.{◌⊎◌, inl, inr, ◌≢◌}
use mathlib.Core.Bool.{true, false, ◌&&◌}
use mathlib.Core.List.{List, [], ◌∷◌, ◌++◌}
use mathlib.Core.Option.{Option, none, some}
use native.Mathlib.Omega.{arith}
use lib.Dec.{leb}
use lib.IntN.{ℤ}
use Rattle.rules.specs.Lists.{All}
use Rattle.rules.specs.Words.{zeros}
use Rattle.rules.specs.Claims.{Iff}
use Rattle.rules.proofs.ListLaws.{bool}
use Rattle.numbers.specs.Numbers.{natural, whole}
use Rattle.numbers.specs.Parts.{parts}
use Rattle.numbers.specs.Lines.{begun_with, BadStart, Begun}
use Rattle.numbers.proofs.NumbersBack.{free}
use Rattle.numbers.proofs.Lines.{begun_lines, bad-start}
use Rattle.roster_line.specs.Rights.{Kind, kind_of, in_range, Said, gives, faulty, judged, said, said_by, read_line, with_right}
use Rattle.roster_file.specs.File.{refused, follow, read_lines, names_line, from_start, read_file}
use Rattle.roster_file.specs.Claims.{Readable, OutOfRange, LineFaults}
use Rattle.roster_file.specs.Claims.{FaultyBy, GivesRight, FirstFault, FirstFaultDecides}
use Rattle.roster_file.proofs.Files.{start-read, start-refused}

-- ---- a line

-- a line that can be read is judged by its numbers
readable-says : (line : List ℕ) (r : Readable line) → read_line line ≡ judged r.party r.kind r.number
unfolding read_line
readable-says line r = rw r.items (rw (r.first_reads, r.second_reads, r.third_reads) refl)

unread-or-readable : (line : List ℕ) → (read_line line ≡ faulty 11) ⊎ Readable line
unfolding read_line
unread-or-readable line = go (parts 32 line) refl
  where
    three : (a b c : List ℕ) → parts 32 line ≡ a ∷ b ∷ c ∷ [] → (o : Option ℕ) (k : Option Kind) (z : Option ℤ)
        → natural a ≡ o → kind_of b ≡ k → whole c ≡ z → (said o k z ≡ faulty 11) ⊎ Readable line
    three a b c e none k z p q s = inl refl
    three a b c e (some who) none z p q s = inl refl
    three a b c e (some who) (some kind) none p q s = inl refl
    three a b c e (some who) (some kind) (some z) p q s =
        let r : Readable line = record {
          first = a;
          second = b;
          third = c;
          party = who;
          kind = kind;
          number = z;
          items = e;
          first_reads = p;
          second_reads = q;
          third_reads = s;
        } in
        inr r

    go : (ps : List (List ℕ)) → parts 32 line ≡ ps → (said_by ps ≡ faulty 11) ⊎ Readable line
    go [] e = inl refl
    go (a ∷ []) e = inl refl
    go (a ∷ b ∷ []) e = inl refl
    go (a ∷ b ∷ c ∷ []) e = three a b c e (natural a) (kind_of b) (whole c) refl refl refl
    go (a ∷ b ∷ c ∷ d ∷ more) e = inl refl

-- what is judged is faulty only by 12, and only out of range
judged-faulty : (who : ℕ) (kind : Kind) (k : ℤ) (n : ℕ) → judged who kind k ≡ faulty n → (n ≡ 12) × (leb who 7 && in_range kind k ≡ false)
judged-faulty who kind k n e = go (bool (leb who 7 && in_range kind k))
  where
    go : (leb who 7 && in_range kind k ≡ true) ⊎ (leb who 7 && in_range kind k ≡ false) → (n ≡ 12) × (leb who 7 && in_range kind k ≡ false)
    go (inl t) = let e' = rw t at e in let z : ◌≡◌ {A = ℕ} 0 1 = cc in absurd (omega arith)
    go (inr t) = let e' : faulty 12 ≡ faulty n = rw t at e in let q : n ≡ 12 = cc in (q, t)

out_of_range : (line : List ℕ) (r : Readable line) (n : ℕ) → read_line line ≡ faulty n → (n ≡ 12) × OutOfRange r
out_of_range line r n e = judged-faulty r.party r.kind r.number n (sym (readable-says line r) ∙ e)

faulty-is : (s : Said) (m n : ℕ) → s ≡ faulty m → s ≡ faulty n → n ≡ m
faulty-is s m n p q = cc

faulty-only : (line : List ℕ) (n : ℕ) → read_line line ≡ faulty n → (n ≡ 11) ⊎ (n ≡ 12)
faulty-only line n e = go (unread-or-readable line)
  where
    go : (read_line line ≡ faulty 11) ⊎ Readable line → (n ≡ 11) ⊎ (n ≡ 12)
    go (inl u) = inl (faulty-is (read_line line) 11 n u e)
    go (inr r) = inr (out_of_range line r n e).0

pub line-faults : LineFaults
line-faults line = record { eleven = (unread, by-eleven); twelve = (ranged, by-twelve); no_other = faulty-only line }
  where
    unread : read_line line ≡ faulty 11 → ¬ Readable line
    unread e r = let q : ◌≡◌ {A = ℕ} 11 12 = (out_of_range line r 11 e).0 in absurd (omega arith)

    by-eleven : ¬ Readable line → read_line line ≡ faulty 11
    by-eleven n = go (unread-or-readable line)
      where
        go : (read_line line ≡ faulty 11) ⊎ Readable line → read_line line ≡ faulty 11
        go (inl e) = e
        go (inr r) = absurd (n r)

    ranged : read_line line ≡ faulty 12 → (r : Readable line) × OutOfRange r
    ranged e = go (unread-or-readable line)
      where
        go : (read_line line ≡ faulty 11) ⊎ Readable line → (r : Readable line) × OutOfRange r
        go (inl u) = let q : ◌≡◌ {A = ℕ} 12 11 = faulty-is (read_line line) 11 12 u e in absurd (omega arith)
        go (inr r) = (r, (out_of_range line r 12 e).1)

    by-twelve : (r : Readable line) × OutOfRange r → read_line line ≡ faulty 12
    by-twelve h = readable-says line h.0 ∙ rw h.1 refl

-- ---- the lines of a file

-- the first fault of any parts
record FaultIn (n : ℕ) (ps : List (List ℕ)) : Type 0 where
  before : List (List ℕ)
  line : List ℕ
  after : List (List ℕ)
  lines : ps ≡ before ++ (line ∷ after)
  good : All GivesRight before
  fault : FaultyBy n line after

refused-is : (m n : ℕ) → refused m ≡ refused n → n ≡ m
refused-is m n e = cc

refused-faulty : (ps : List (List ℕ)) (roster : List ℕ) (n : ℕ) → read_lines roster ps ≡ refused n → FaultIn n ps
refused-faulty [] roster n e = let z : ◌≡◌ {A = ℕ} 0 1 = cc in absurd (omega arith)
refused-faulty ([] ∷ []) roster n e = let z : ◌≡◌ {A = ℕ} 0 1 = cc in absurd (omega arith)
refused-faulty ((b ∷ bs) ∷ []) roster n e =
    let some_byte : (b ∷ bs) ≢ [] = λ q. let z : ◌≡◌ {A = ℕ} 0 1 = cc in omega arith in
    record { before = []; line = b ∷ bs; after = []; lines = refl; good = tt; fault = (some_byte, refused-is 11 n e) }
refused-faulty (l ∷ m ∷ ls) roster n e = go (read_line l) refl e (λ next. refused-faulty (m ∷ ls) next n)
  where
    go : (s : Said) → read_line l ≡ s → follow s roster (λ next. read_lines next (m ∷ ls)) ≡ refused n
        → ((next : List ℕ) → read_lines next (m ∷ ls) ≡ refused n → FaultIn n (m ∷ ls)) → FaultIn n (l ∷ m ∷ ls)
    go (gives who x) h e r =
        let q : FaultIn n (m ∷ ls) = r (with_right who x roster) e in
        record {
          before = l ∷ q.before;
          line = q.line;
          after = q.after;
          lines = ap (λ t. l ∷ t) q.lines;
          good = ((who, (x, h)), q.good);
          fault = q.fault;
        }
    go (faulty k) h e r =
        let f : read_line l ≡ faulty n = h ∙ ap faulty (sym (refused-is k n e)) in
        record { before = []; line = l; after = m ∷ ls; lines = refl; good = tt; fault = f }

-- the lines before a part are lines: a part follows each
line-follows : (l : List ℕ) (ls : List (List ℕ)) (line : List ℕ) (after : List (List ℕ)) (roster : List ℕ)
    → read_lines roster (l ∷ (ls ++ (line ∷ after))) ≡ follow (read_line l) roster (λ next. read_lines next (ls ++ (line ∷ after)))
line-follows l [] line after roster = refl
line-follows l (m ∷ ms) line after roster = refl

faulty-here : (n : ℕ) (line : List ℕ) (after : List (List ℕ)) → FaultyBy n line after
    → (roster : List ℕ) → read_lines roster (line ∷ after) ≡ refused n
faulty-here n [] [] f roster = absurd (f.0 refl)
faulty-here n (b ∷ bs) [] f roster = ap refused (sym f.1)
faulty-here n line (m ∷ ms) f roster = rw f refl

faulty-refused : (n : ℕ) (line : List ℕ) (after : List (List ℕ)) → FaultyBy n line after
    → (ls : List (List ℕ)) → All GivesRight ls → (roster : List ℕ) → read_lines roster (ls ++ (line ∷ after)) ≡ refused n
faulty-refused n line after f [] g roster = faulty-here n line after f roster
faulty-refused n line after f (l ∷ ls) g roster =
    let next : List ℕ = with_right g.0.0 g.0.1.0 roster in
    line-follows l ls line after roster ∙ rw g.0.1.1 (faulty-refused n line after f ls g.1 next)

-- ---- the start of a file

-- no line feed stands in the names line
unbroken : free 10 names_line ≡ true
unfolding names_line
unbroken = refl

-- past a good start the lines decide
pub begun-reads : (file rest : List ℕ) → Begun 16384 names_line file rest → read_file file ≡ read_lines (zeros 16) (parts 10 rest)
begun-reads file rest h = start-read file (parts 10 rest) (begun_lines 16384 names_line file unbroken rest h)

-- no line is faulty by 10, nor is what no line feed ends
never-ten : (line : List ℕ) (after : List (List ℕ)) → ¬ FaultyBy 10 line after
never-ten line [] f = let q = f.1 in omega arith
never-ten line (m ∷ ms) f = go (faulty-only line 10 f)
  where
    go : ¬ (◌≡◌ {A = ℕ} 10 11 ⊎ ◌≡◌ {A = ℕ} 10 12)
    go (inl e) = omega arith
    go (inr e) = omega arith

begun-refused : (file rest : List ℕ) → Begun 16384 names_line file rest → (n : ℕ) → Iff (read_file file ≡ refused n) (FirstFault n rest)
begun-refused file rest h n = (there, back)
  where
    there : read_file file ≡ refused n → FirstFault n rest
    there e =
        let q : FaultIn n (parts 10 rest) = refused-faulty (parts 10 rest) (zeros 16) n (sym (begun-reads file rest h) ∙ e) in
        record { before = q.before; line = q.line; after = q.after; lines = q.lines; good = q.good; fault = q.fault }

    back : FirstFault n rest → read_file file ≡ refused n
    back f = begun-reads file rest h ∙ rw f.lines (faulty-refused n f.line f.after f.fault f.before f.good (zeros 16))

pub first-fault-decides : FirstFaultDecides
unfolding read_file
first-fault-decides file = record { ten = (bad, by_ten); lines = begun-refused file }
  where
    bad : read_file file ≡ refused 10 → BadStart 16384 names_line file
    bad e = go (begun_with 16384 names_line file) refl e
      where
        go : (o : Option (List (List ℕ))) → begun_with 16384 names_line file ≡ o → from_start o ≡ refused 10 → BadStart 16384 names_line file
        go none b q = (bad-start 16384 names_line file unbroken).0 b
        go (some lines) b q =
            let f : FaultIn 10 lines = refused-faulty lines (zeros 16) 10 q in
            absurd (never-ten f.line f.after f.fault)

    by_ten : BadStart 16384 names_line file → read_file file ≡ refused 10
    by_ten h = start-refused file ((bad-start 16384 names_line file unbroken).1 h)

-- ---- no refusal has a larger number

fault-small : (n : ℕ) (line : List ℕ) (after : List (List ℕ)) → FaultyBy n line after → n ≤ 12
fault-small n line [] f = omega (arith, f.1)
fault-small n line (m ∷ ms) f = go (faulty-only line n f)
  where
    go : (n ≡ 11) ⊎ (n ≡ 12) → n ≤ 12
    go (inl e) = omega arith
    go (inr e) = omega arith

pub refusal-small : (file : List ℕ) (n : ℕ) → read_file file ≡ refused n → n ≤ 12
unfolding read_file
refusal-small file n e = go (begun_with 16384 names_line file) e
  where
    go : (o : Option (List (List ℕ))) → from_start o ≡ refused n → n ≤ 12
    go none q = let t = refused-is 10 n q in omega arith
    go (some lines) q = let f = refused-faulty lines (zeros 16) n q in fault-small n f.line f.after f.fault
