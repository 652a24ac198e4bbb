-- `obtain` meets its contract: the search is that of `seek`, and the names held are those in the fields that it copied out.
use Rattle.std.proofs.Common.{sym, arith, length-take-le}
use Rattle.words.specs.Pairs.{meant}
use Rattle.search.specs.Place as place
use Rattle.space.proofs.Seeking.{found_passed}
use Rattle.space.proofs.obtain.Goals as goal

pub slice_bounds-hold_names-end : goal.slice_bounds-hold_names-end
slice_bounds-hold_names-end c =
    let a = c.args in
    let ok = found_passed a.space.now (place.meant a.op) a.party (meant a.pair) a.fields.now a.res.now _ (rw c.in-Some.is at c.in_ok-row.ensures.value) in
    omega (arith, ok.fits, c.seek.auto.res)

pub slice_bounds-hold_names-end-2 : goal.slice_bounds-hold_names-end-2
slice_bounds-hold_names-end-2 c = sym (length-take-le _ _ (slice_bounds-hold_names-end c))

pub hold_names-requires : goal.hold_names-requires
hold_names-requires c =
    let a = c.args in
    let ok = found_passed a.space.now (place.meant a.op) a.party (meant a.pair) a.fields.now a.res.now _ (rw c.in-Some.is at c.in_ok-row.ensures.value) in
    (ok.is_sound, ok.party)
