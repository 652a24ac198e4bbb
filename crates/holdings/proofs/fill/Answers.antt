-- `fill` meets its contract: the rows are cleared, the two parts before them are the holdings, and the count of entries is 0.
use Rattle.std.proofs.Common.{ℕ, ◌≡◌, ◌≤◌, ◌-◌, List, ◌∷◌, ◌++◌, length, map, take, drop, set, refl, sym, ap, ◌∙◌, arith, rules, length-append, length-drop}
use Rattle.std.proofs.Math.ListN.{length-take}
use Rattle.std.proofs.Math.Seq.{take_all}
use Rattle.rules.specs.Names.{with_bit, default_key}
use Rattle.rules.specs.Calls.{opened}
use Rattle.rules.specs.Words.{rows_end, zeros, encode}
use Rattle.rules.proofs.Openings.{opened-words}
use Rattle.edits.proofs.Store.{all-replaced}
use Rattle.holdings.proofs.Opening.{mid-mid, past-cleared, on-cleared}
use Rattle.holdings.proofs.fill.Goals as goal

pub returns : goal.returns
unfolding encode
returns c =
    let rows = c.start-rows.result in
    let s = c.args.space.now in
    let roster = c.args.roster.now in
    let z : List ℕ = take rows s ++ (c.clear.new.part ++ drop (rows_end - rows) (drop rows s)) in
    let partitions : List ℕ = take 8 roster in
    let keys : List ℕ = map (λ w. with_bit w default_key) (drop 8 roster) in
    let past : drop 17 z ≡ zeros 1792 = past-cleared s c.clear.new.part 17 1792 c.start-rows.ensures refl c.requires.0 c.clear.ensures in
    let first : c.copy_in.new.dst ≡ partitions = c.copy_in.ensures ∙ all-replaced partitions _ (search rules) in
    let whole : take 8 (drop 8 roster) ≡ drop 8 roster = take_all 8 (drop 8 roster) (simp length-drop (omega arith)) in
    let second : c.with_all.new.dst ≡ keys = c.with_all.ensures ∙ ap (map (λ w. with_bit w default_key)) whole in
    let eight : length partitions ≡ 8 = simp length-take (omega arith) in
    let some : 1 ≤ length z = simp (length-append, length-take) (omega (arith, c.requires.0, c.start-rows.ensures)) in
    let whole-space : 0 ∷ (partitions ++ (keys ++ zeros 1792)) ≡ encode (opened roster) = sym (ap encode (opened-words roster c.requires.1)) in
    rw (first, second)
    (ap (λ (l : List ℕ). set l 0 0) (mid-mid z partitions keys 1 8 8 some eight) ∙ on-cleared z partitions keys some past ∙ whole-space)
