-- A file line by line: the pairs of the lines so far, and the lines from here on, decide.
use Prim.Native.Nat.{ℕ, zero, suc, ◌+◌, ◌≤◌, ◌<◌}
use mathlib.Core.Path.{◌≡◌, refl, sym, ap, ◌∙◌, subst}
use mathlib.Core.List.{List, [], ◌∷◌, ◌++◌, map}
use mathlib.Core.Option.{Option, none, some}
use native.Mathlib.Nat.{le_of_suc-le-suc}
use native.Mathlib.Numerals.{add-one}
use native.Mathlib.Omega.{arith}
use lib.ListN.{length, take, set, length-append}
use lib.Seq.{take-nil, take-suc-set}
use Rattle.std.specs.Prelude.{Some}
use Rattle.numbers.specs.Parts.{parts}
use Rattle.start_order.specs.Pairs.{Pairs}
use Rattle.order_file.specs.File.{read_pair, follow, read_pairs}
use Rattle.order_file.specs.Answers.{word_of, word_in, kept_of}

-- ---- one pair more, of which up to k are kept

kept_more : (k : ℕ) (ps : Pairs) (p : ℕ × ℕ) → length (map word_of (take k ps)) < k
    → map word_of (take k (ps ++ (p ∷ []))) ≡ map word_of (take k ps) ++ (word_of p ∷ [])
kept_more zero ps p h = absurd (omega arith)
kept_more (suc k) [] p h = ap (λ (qs : Pairs). word_of p ∷ map word_of qs) (take-nil k)
kept_more (suc k) (q ∷ ps) p h = ap (λ (ws : List ℕ). word_of q ∷ ws) (kept_more k ps p (le_of_suc-le-suc h))

kept_full : (k : ℕ) (ps : Pairs) (p : ℕ × ℕ) → k ≤ length (map word_of (take k ps)) → map word_of (take k (ps ++ (p ∷ []))) ≡ map word_of (take k ps)
kept_full zero ps p h = refl
kept_full (suc k) [] p h = absurd (omega arith)
kept_full (suc k) (q ∷ ps) p h = ap (λ (ws : List ℕ). word_of q ∷ ws) (kept_full k ps p (le_of_suc-le-suc h))

-- ---- the reader at a line

-- it has these pairs of the lines before the rest, and their words as far as they are kept
pub record Got (lines rest : List ℕ) (n : ℕ) (words : List ℕ) : Type 0 where
  pub pairs : Pairs
  pub reads : read_pairs [] (parts 10 lines) ≡ read_pairs pairs (parts 10 rest)
  pub count : n ≡ length (kept_of pairs)
  pub kept : take n words ≡ kept_of pairs

-- what a line's answer says of it
pair_of : (o : Option (ℕ × ℕ)) (w : ℕ) → Some w ≡ word_in o → (p : ℕ × ℕ) × ((o ≡ some p) × (w ≡ word_of p))
pair_of none w e = absurd cc
pair_of (some p) w e = let x : w ≡ word_of p = cc in (p, (refl, x))

module _ (lines rest : List ℕ) (n : ℕ) (words : List ℕ) (g : Got lines rest n words) where
  module _ (line next : List ℕ) (e : parts 10 rest ≡ line ∷ parts 10 next) where
    one_line : read_pairs [] (parts 10 lines) ≡ follow (read_pair line) g.pairs (λ qs. read_pairs qs (parts 10 next))
    one_line = g.reads ∙ ap (read_pairs g.pairs) e

    module _ (p : ℕ × ℕ) (r : read_pair line ≡ some p) where
      next-reads : read_pairs [] (parts 10 lines) ≡ read_pairs (g.pairs ++ (p ∷ [])) (parts 10 next)
      next-reads = one_line ∙ rw r

      with-room : n < 65 → length words ≡ 65 → Got lines next (n + 1) (set words n (word_of p))
      with-room l k =
          let c = g.count in
          let more : kept_of (g.pairs ++ (p ∷ [])) ≡ kept_of g.pairs ++ (word_of p ∷ []) = kept_more 65 g.pairs p (omega arith) in
          record {
            pairs = g.pairs ++ (p ∷ []);
            reads = next-reads;
            count = rw more (rw (length-append (kept_of g.pairs) (word_of p ∷ [])) (omega arith));
            kept = rw (add-one, take-suc-set words n (word_of p) (omega arith), g.kept, more);
          }

      without-room : 65 ≤ n → Got lines next n words
      without-room l =
          let c = g.count in
          let full : kept_of (g.pairs ++ (p ∷ [])) ≡ kept_of g.pairs = kept_full 65 g.pairs p (omega arith) in
          record { pairs = g.pairs ++ (p ∷ []); reads = next-reads; count = rw full c; kept = rw full g.kept }

    module _ (w : ℕ) (q : Some w ≡ word_in (read_pair line)) where
      pub line_kept : n < 65 → length words ≡ 65 → Got lines next (n + 1) (set words n w)
      line_kept l k = let r = pair_of (read_pair line) w q in subst (λ (v : ℕ). Got lines next (n + 1) (set words n v)) (sym r.1.1) (with-room r.0 r.1.0 l k)

      pub line-passed : 65 ≤ n → Got lines next n words
      line-passed = let r = pair_of (read_pair line) w q in without-room r.0 r.1.0
