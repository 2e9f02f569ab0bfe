use Rattle.std.proofs.Common.{Some, None, refl}
use Rattle.hpr_terms.proofs.Facts.{get_below}
use Rattle.hpr_merge.proofs.LeastLinks.{link_here, link_of_point}
use Rattle.hpr_merge.proofs.conflicts.edge_at.Goals as goal

pub edge-requires : goal.edge-requires
edge-requires c =
    let (v, at_v) = get_below c.args.beside.now.merged.vertices c.args.at c.requires.at in
    (link_here c.args.beside.now c.args.numbers.now c.args.links.now c.requires.links c.args.at (Some (c.in-Some.to, c.in-Some.link)) c.in-Some.ensures.beside (c.in-Some.ensures.there refl) v at_v).0

pub returns-in_ok-edge-in-Some : goal.returns-in_ok-edge-in-Some
returns-in_ok-edge-in-Some c = λ v at_v.
    (let has = c.in-Some.ensures.there refl in
    let least = link_here c.args.beside.now c.args.numbers.now c.args.links.now c.requires.links c.args.at (Some (c.in-Some.to, c.in-Some.link)) c.in-Some.ensures.beside has v at_v in
    ((c.args.at, has, at_v), least.1 c.in_ok-edge-in-Some.field-0 c.in_ok-edge-in-Some.ensures))

pub returns-in-None : goal.returns-in-None
returns-in-None c = λ v at_v point.
    link_of_point c.args.beside.now c.args.numbers.now c.args.links.now c.requires.links c.args.at None c.in-None.ensures.beside c.requires.once v at_v point
