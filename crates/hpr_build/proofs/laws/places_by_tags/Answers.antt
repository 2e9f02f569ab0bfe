use Rattle.std.proofs.Common.{None, []}
use Rattle.hpr_build.proofs.PlaceIn.{count_places, part_of_place, place_of_part}
use Rattle.hpr_build.proofs.PlaceLaws.{role_of_part, standing_of_part, part_of_standing}
use Rattle.hpr_build.proofs.laws.places_by_tags.Goals as goal

pub returns-clause-count : goal.returns-clause-count
returns-clause-count c = λ t. count_places t.body 1 None []

pub returns-clause-role : goal.returns-clause-role
returns-clause-role c = λ t p x l h. role_of_part t p x (part_of_place t p x l h)

pub returns-clause-sound : goal.returns-clause-sound
returns-clause-sound c = λ t p x l h. standing_of_part t p x (part_of_place t p x l h)

pub returns-clause-complete : goal.returns-clause-complete
returns-clause-complete c = λ t v s h.
    let k = part_of_standing t v s h in
    let r = place_of_part t k.0 k.1 k.2 in
    (k.0, k.1, r.0, r.1, k.3, k.4, k.5)
