use Rattle.std.proofs.Common.{◌≡◌, ◌≤◌, ◌<◌, ◌+◌, Some, ap, sym, refl, ◌∙◌, subst, vec_capacity}
use Rattle.std.specs.Option.{unwrap_or}
use Rattle.hpr_syntax.specs.declared.tree.Stmt.{Stmt}
use Rattle.hpr_syntax.specs.BodyOf.{before}
use Rattle.hpr_syntax.specs.Parts.{find_stmt}
use Rattle.hpr_edit.specs.Places.{width}
use Rattle.hpr_edit.specs.Changes.{at_part, from, with_block, first_block, second_block}
use Rattle.hpr_edit.specs.InPlace.{times, placing}
use Rattle.hpr_edit.proofs.Exchanged.{exchanged_again, once_exchanged, room_within}
use Rattle.hpr_edit.proofs.put.put_within.Goals as goal

pub put_in-requires-clause-room : goal.put_in-requires-clause-room
put_in-requires-clause-room c =
    let t = c.args.tag in
    let b = c.args.body.now in
    subst (λ s. width (first_block s) + width (second_block s) < vec_capacity c.args.room) (sym c.replace-around.ensures.part)
    (room_within t b c.stand_in.result c.requires.once (find_stmt t b) (vec_capacity c.args.room) refl c.stand_in.ensures.small c.requires.room)

pub replace-requires : goal.replace-requires
replace-requires c =
    let t = c.args.tag in
    let b = c.args.body.now in
    record {
      once = subst (λ x. times t x ≤ 1) (sym c.replace-around.ensures.changed) (once_exchanged t b c.stand_in.result c.requires.once (find_stmt t b) refl c.stand_in.ensures.once);
    }

pub returns : goal.returns
returns c =
    let t = c.args.tag in
    let b = c.args.body.now in
    let d = c.stand_in.result in
    let put : Stmt → Stmt = with_block c.args.branch (from c.args.at (before c.args.part)) in
    let s = c.put_in.new.stmt in
    let is : s ≡ put (unwrap_or (find_stmt t b) d) = c.put_in.ensures ∙ ap put c.replace-around.ensures.part in
    c.replace.ensures.changed
    ∙ ap (at_part t (placing (Some s))) c.replace-around.ensures.changed
    ∙ exchanged_again t b d c.requires.once (find_stmt t b) refl (λ x rest. before (put x) rest) (placing (Some s)) c.stand_in.ensures.tag (λ r. ap (λ p. before p r) is)
