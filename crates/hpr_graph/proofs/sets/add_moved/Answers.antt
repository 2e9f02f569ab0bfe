use Rattle.std.proofs.Common.{◌≡◌, Some, Result, Ok, Err, OnOk, sym}
use Rattle.hpr_graph.specs.Moves.{moved}
use Rattle.hpr_graph.proofs.Lists.{never}
use Rattle.hpr_graph.proofs.Moving.{known_edges, added_edges, moved_link, elsewhere_added}
use Rattle.hpr_graph.proofs.sets.add_moved.Goals as goal

pub returns-then-has_sorted-clause-edges : goal.returns-then-has_sorted-clause-edges
returns-then-has_sorted-clause-edges c =
    let is : moved c.args.numbers.now c.args.link ≡ Some c.in-Some.moved = sym c.in-Some.ensures in
    known_edges c.args.source.now c.args.target.now c.args.numbers.now c.requires.placed c.args.at c.args.to c.requires.number c.args.link c.in-Some.moved is
    ((c.requires.known c.in-Some.moved is).0 (c.has_sorted.ensures.0 c.if-has_sorted.true))

on_ok : {T E : Type 0} (r : Result T E) (A B C D : Type 0) → OnOk r A → OnOk r B → OnOk r C → (A → B → C → D) → OnOk r D
on_ok (Ok x) A B C D a b c f = f a b c
on_ok (Err e) A B C D a b c f = tt

pub returns-clause-edges : goal.returns-clause-edges
returns-clause-edges c =
    let is : moved c.args.numbers.now c.args.link ≡ Some c.in-Some.moved = sym c.in-Some.ensures in
    on_ok c.push_new_link.result _ _ _ _ c.push_new_link.ensures.there c.push_new_link.ensures.kept c.push_new_link.ensures.only
    (λ there kept only.
    added_edges c.args.source.now c.args.target.now c.args.numbers.now c.requires.placed c.args.at c.args.to c.requires.number c.args.link c.in-Some.moved is
    c.push_new_link.new.self c.push_new_link.ensures.vertices there kept only)

pub push_new_link-requires-clause-fresh : goal.push_new_link-requires-clause-fresh
push_new_link-requires-clause-fresh c = λ there.
    let is : moved c.args.numbers.now c.args.link ≡ Some c.in-Some.moved = sym c.in-Some.ensures in
    never c.has_sorted.result (c.has_sorted.ensures.1 ((c.requires.known c.in-Some.moved is).1 there)) c.if-has_sorted.false

pub push_new_link-requires-clause-link : goal.push_new_link-requires-clause-link
push_new_link-requires-clause-link c =
    moved_link c.args.source.now c.args.target.now c.args.numbers.now c.requires.placed c.args.at c.args.to c.requires.number c.args.link c.in-Some.moved (sym c.in-Some.ensures) c.requires.link

pub returns-clause-elsewhere : goal.returns-clause-elsewhere
returns-clause-elsewhere c =
    on_ok c.push_new_link.result _ _ _ _ c.push_new_link.ensures.there c.push_new_link.ensures.kept c.push_new_link.ensures.only
    (λ there kept only. elsewhere_added c.args.target.now c.push_new_link.new.self c.args.to c.in-Some.moved kept only)
