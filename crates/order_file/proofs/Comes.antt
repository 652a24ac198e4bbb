-- What a file of pairs comes to: refused by 10 for its start, by 11 for a line, and else what its pairs come to.
use Prim.Native.Nat.{ℕ}
use mathlib.Core.Path.{◌≡◌, refl, sym, ap, ◌∙◌, subst}
use mathlib.Core.Bool.{true}
use mathlib.Core.List.{List, [], ◌∷◌, ◌++◌, append-nil, append_assoc}
use mathlib.Core.Option.{Option, none, some}
use native.Mathlib.Omega.{arith}
use Rattle.rules.specs.Claims.{Iff}
use Rattle.numbers.specs.Numbers.{natural}
use Rattle.numbers.specs.Parts.{before, beyond, parts}
use Rattle.numbers.specs.Lines.{begun_with, BadStart, Begun}
use Rattle.numbers.proofs.NumbersBack.{free}
use Rattle.numbers.proofs.Lines.{begun_lines, bad-start}
use Rattle.start_order.specs.Pairs.{Pairs}
use Rattle.start_order.specs.Call.{refused, start_order}
use Rattle.start_order.proofs.Answered.{Bounded, start-bounded}
use Rattle.order_file.specs.File.{both, pair_by, read_pair, follow, read_pairs, names_line, from_pairs, read_file}
use Rattle.order_file.specs.Claims.{LineOf, LinesOf, FileComesTo}
use Rattle.order_file.proofs.Outcomes.{pairs-bounded, bad-comes, lines-come}

-- ---- a line of a pair reads as that pair, and nothing else does

line_reads : (line : List ℕ) (p : ℕ × ℕ) → LineOf line p → read_pair line ≡ some p
unfolding read_pair
line_reads line p l = rw l.items (rw (l.first_reads, l.second_reads))

reads-line : (line : List ℕ) (p : ℕ × ℕ) → read_pair line ≡ some p → LineOf line p
unfolding read_pair
reads-line line p = go (parts 32 line) refl
  where
    two : (a b : List ℕ) → parts 32 line ≡ a ∷ b ∷ [] → (o q : Option ℕ) → natural a ≡ o → natural b ≡ q → both o q ≡ some p → LineOf line p
    two a b e none q x y h = let z : ◌≡◌ {A = ℕ} 0 1 = cc in absurd (omega arith)
    two a b e (some m) none x y h = let z : ◌≡◌ {A = ℕ} 0 1 = cc in absurd (omega arith)
    two a b e (some m) (some n) x y h =
        let same : (m, n) ≡ p = cc in
        let f : natural a ≡ some p.0 = x ∙ ap (λ (r : ℕ × ℕ). some r.0) same in
        let s : natural b ≡ some p.1 = y ∙ ap (λ (r : ℕ × ℕ). some r.1) same in
        record { first = a; second = b; items = e; first_reads = f; second_reads = s }

    go : (ps : List (List ℕ)) → parts 32 line ≡ ps → pair_by ps ≡ some p → LineOf line p
    go [] e h = let z : ◌≡◌ {A = ℕ} 0 1 = cc in absurd (omega arith)
    go (a ∷ []) e h = let z : ◌≡◌ {A = ℕ} 0 1 = cc in absurd (omega arith)
    go (a ∷ b ∷ []) e h = two a b e (natural a) (natural b) refl refl h
    go (a ∷ b ∷ c ∷ more) e h = let z : ◌≡◌ {A = ℕ} 0 1 = cc in absurd (omega arith)

-- ---- and so do the lines, after the pairs of the lines before

lines-read : (ls : List (List ℕ)) (qs ps : Pairs) → LinesOf ls ps → read_pairs qs ls ≡ some (qs ++ ps)
lines-read [] qs ps h = absurd h
lines-read (l ∷ []) qs ps h = rw (h.0, h.1) (ap some (sym (append-nil qs)))
lines-read (l ∷ m ∷ ls) qs [] h = absurd h
lines-read (l ∷ m ∷ ls) qs (p ∷ ps) h =
    rw (line_reads l p h.0) (lines-read (m ∷ ls) (qs ++ (p ∷ [])) ps h.1 ∙ ap some (append_assoc qs (p ∷ []) ps))

reads_lines : (l : List ℕ) (ls : List (List ℕ)) (qs rs : Pairs) → read_pairs qs (l ∷ ls) ≡ some rs → (ps : Pairs) × LinesOf (l ∷ ls) ps
reads_lines [] [] qs rs e = ([], (refl, refl))
reads_lines (b ∷ bs) [] qs rs e = let z : ◌≡◌ {A = ℕ} 0 1 = cc in absurd (omega arith)
reads_lines l (m ∷ ls) qs rs e = go (read_pair l) refl e (λ next. reads_lines m ls next rs)
  where
    go : (o : Option (ℕ × ℕ)) → read_pair l ≡ o → follow o qs (λ next. read_pairs next (m ∷ ls)) ≡ some rs
        → ((next : Pairs) → read_pairs next (m ∷ ls) ≡ some rs → (ps : Pairs) × LinesOf (m ∷ ls) ps) → (ps : Pairs) × LinesOf (l ∷ m ∷ ls) ps
    go none h e r = let z : ◌≡◌ {A = ℕ} 0 1 = cc in absurd (omega arith)
    go (some p) h e r = let k = r (qs ++ (p ∷ [])) e in (p ∷ k.0, (reads-line l p h, k.1))

-- ---- the claim

-- no line feed stands in the names line
names-free : free 10 names_line ≡ true
unfolding names_line
names-free = refl

begun-comes : (file rest : List ℕ) → Begun 4096 names_line file rest → read_file file ≡ from_pairs (read_pairs [] (parts 10 rest))
begun-comes file rest b = lines-come file (parts 10 rest) (begun_lines 4096 names_line file names-free rest b)

pub file-comes-to : FileComesTo
file-comes-to file = record { ten = (there, back); eleven = λ rest b. (unread rest b, no_pairs rest b); pairs = comes }
  where
    bad : Iff (begun_with 4096 names_line file ≡ none) (BadStart 4096 names_line file)
    bad = bad-start 4096 names_line file names-free

    -- past a good start no refusal is 10
    there : read_file file ≡ refused 10 → BadStart 4096 names_line file
    there e = go (begun_with 4096 names_line file) refl
      where
        go : (o : Option (List (List ℕ))) → begun_with 4096 names_line file ≡ o → BadStart 4096 names_line file
        go none h = bad.0 h
        go (some ls) h =
            let r = subst (Bounded 11) (sym (lines-come file ls h) ∙ e) (pairs-bounded (read_pairs [] ls)) in
            absurd (omega (arith, r.0))

    back : BadStart 4096 names_line file → read_file file ≡ refused 10
    back b = bad-comes file (bad.1 b)

    comes : (rest : List ℕ) → Begun 4096 names_line file rest → (ps : Pairs) → LinesOf (parts 10 rest) ps → read_file file ≡ start_order ps 8
    comes rest b ps h = begun-comes file rest b ∙ ap from_pairs (lines-read (parts 10 rest) [] ps h)

    -- and no refusal of pairs is 11
    unread : (rest : List ℕ) → Begun 4096 names_line file rest → read_file file ≡ refused 11 → (ps : Pairs) → ¬ LinesOf (parts 10 rest) ps
    unread rest b e ps h = let r = subst (Bounded 15) (sym (comes rest b ps h) ∙ e) (start-bounded ps 8) in omega (arith, r.0)

    no_pairs : (rest : List ℕ) → Begun 4096 names_line file rest → ((ps : Pairs) → ¬ LinesOf (parts 10 rest) ps) → read_file file ≡ refused 11
    no_pairs rest b n = begun-comes file rest b ∙ go (read_pairs [] (parts 10 rest)) refl
      where
        go : (o : Option Pairs) → read_pairs [] (parts 10 rest) ≡ o → from_pairs o ≡ refused 11
        go none e = refl
        go (some rs) e = let k = reads_lines (before 10 rest) (beyond 10 rest) [] rs e in absurd (n k.0 k.1)
