use Rattle.std.proofs.Common.{◌≡◌, ◌<◌, get_or, slice_get, Some, length, arith, rules}
use Rattle.std.proofs.lemmas.Option.{slice_get-get_or}
use Rattle.hpr_order.proofs.Marked.{place_more, places_all}
use Rattle.hpr_order.proofs.numbers.places_of.Goals as goal

pub loop-place-preserved : goal.loop-place-preserved
loop-place-preserved c =
    let n = get_or c.args.numbers.now c.loop-place.place 0 in
    let here : slice_get c.args.numbers.now c.loop-place.place ≡ Some (get_or c.args.numbers.now c.loop-place.place 0) = slice_get-get_or c.args.numbers.now c.loop-place.place 0 c.loop-place-test.true in
    let within : get_or c.args.numbers.now c.loop-place.place 0 < length c.loop-place.places.items =
    (let lt : get_or c.args.numbers.now c.loop-place.place 0 < c.args.count = c.requires.within c.loop-place.place 0 c.loop-place-test.true in omega (arith, lt, c.loop-place.invariant.len)) in
    record {
      len = search (rules, c.loop-place.invariant.len);
      places = place_more c.args.numbers.now c.loop-place.places.items c.loop-place.place n c.requires.once here within c.loop-place.invariant.places;
    }

pub returns : goal.returns
returns c = places_all c.args.numbers.now c.loop-place.places.items c.loop-place.place c.loop-place-test.false c.loop-place.invariant.places
