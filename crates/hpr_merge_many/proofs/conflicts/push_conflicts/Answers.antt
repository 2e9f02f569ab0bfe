use Rattle.std.proofs.Common.{◌≡◌, ◌∙◌, ℕ, List, [], ◌∷◌, ◌++◌, append_assoc, map, rules, sym, ap}
use Rattle.std.proofs.lemmas.List.{append-nil, map-append, map-id}
use Rattle.std.proofs.lemmas.Iterator.Adapters.{YieldsList-from_vec}
use Rattle.std.proofs.lemmas.Iterator.Consumers.{YieldsList-end}
use Rattle.hpr_graph.specs.declared.conflict.ManyConflict.{ManyConflict}
use Rattle.hpr_graph.specs.declared.edge.Edge.{Edge}
use Rattle.hpr_graph.specs.declared.vertex.Vertex.{Vertex}
use Rattle.hpr_merge_many.specs.Conflicts.{conflict_of}
use Rattle.hpr_merge_many.proofs.conflicts.push_conflicts.Goals as goal

-- one pair more
one_more : (n : ℕ) (before old new : List ManyConflict) (ps : List (Vertex × Edge)) (p : Vertex × Edge) → old ≡ before ++ map (conflict_of n) ps → new ≡ old ++ conflict_of n p ∷ [] → new ≡ before ++ map (conflict_of n) (ps ++ p ∷ [])
one_more n before old new ps p was items =
    items ∙ ap (λ (cs : List ManyConflict). cs ++ conflict_of n p ∷ []) was ∙ append_assoc before (map (conflict_of n) ps) (conflict_of n p ∷ [])
    ∙ ap (λ (cs : List ManyConflict). before ++ cs) (sym (map-append (conflict_of n) ps (p ∷ [])))

pub loop-point-init : goal.loop-point-init
loop-point-init c = sym (append-nil c.args.into.now.items)

pub loop-point-preserved : goal.loop-point-preserved
loop-point-preserved c =
    one_more c.args.number c.args.into.now.items c.loop-point.into.items c.push.new.self.items c.loop-point.yielded (c.in-Some.point, c.in-Some.edge) c.loop-point.invariant c.in_ok-push.ensures.items

pub returns : goal.returns
returns c =
    let end = YieldsList-end (YieldsList-from_vec {s = c.into_iter-point-iterator.result} c.in_ok-pairs.pairs.items (search rules) (search rules))
    c.loop-point.yielded c.loop-point.point-iterator c.loop-point.yielded_by c.next.result c.next.new.self c.in-None.is c.next.ensures.steps in (
      c.in_ok-pairs.pairs.items,
      c.loop-point.invariant ∙ ap (λ (ps : List (Vertex × Edge)). c.args.into.now.items ++ map (conflict_of c.args.number) ps) (sym (map-id c.loop-point.yielded) ∙ end.0),
      c.in_ok-pairs.ensures,
    )
