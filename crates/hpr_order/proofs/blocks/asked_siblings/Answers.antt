use Rattle.std.proofs.Common.{ℕ, List, sym, subst}
use Rattle.std.proofs.lemmas.Result.{IfOk-weaker}
use Rattle.hpr_graph.specs.Numbered.{graph_in}
use Rattle.hpr_order.specs.Numbers.{AreAsked}
use Rattle.hpr_order.specs.Ordered.{AreAskedSiblings}
use Rattle.hpr_order.specs.Tables.{AreLifted}
use Rattle.hpr_order.proofs.Sound.{below_of}
use Rattle.hpr_order.proofs.Tabled.{none_lifted}
use Rattle.hpr_order.proofs.Tabling.{more_none, more_some}
use Rattle.hpr_order.proofs.blocks.asked_siblings.Goals as goal

pub siblings_by-requires-clause-within : goal.siblings_by-requires-clause-within
siblings_by-requires-clause-within c = λ s t h.
    let are : AreAsked (graph_in c.args.graph.now) c.args.items.now c.deref.result.now =
    subst (AreAsked (graph_in c.args.graph.now) c.args.items.now) (sym c.deref.ensures.value) (c.in_ok-pairs.ensures c.args.items.now c.requires.items.at) in
    let (k, ts, tt', cs, ct, is_s, is_t, e, dir) = (are s t).0 h in
    (below_of c.args.items.now s ts cs is_s, below_of c.args.items.now t tt' ct is_t)

pub returns-clause-asked : goal.returns-clause-asked
returns-clause-asked c =
    let are : AreAsked (graph_in c.args.graph.now) c.args.items.now c.deref.result.now =
    subst (AreAsked (graph_in c.args.graph.now) c.args.items.now) (sym c.deref.ensures.value) (c.in_ok-pairs.ensures c.args.items.now c.requires.items.at) in
    IfOk-weaker c.siblings_by.result _ _
    (λ o. more_some (λ (asked : List (List ℕ)). AreLifted c.args.items.now c.deref.result.now asked)
    (λ (asked : List (List ℕ)). AreAskedSiblings (graph_in c.args.graph.now) c.args.items.now asked) o (λ asked lifted. (c.deref.result.now, are, lifted))) c.siblings_by.ensures.lifted

pub returns-clause-never : goal.returns-clause-never
returns-clause-never c =
    let are : AreAsked (graph_in c.args.graph.now) c.args.items.now c.deref.result.now =
    subst (AreAsked (graph_in c.args.graph.now) c.args.items.now) (sym c.deref.ensures.value) (c.in_ok-pairs.ensures c.args.items.now c.requires.items.at) in
    IfOk-weaker c.siblings_by.result _ _ (λ o. more_none o (none_lifted (graph_in c.args.graph.now) c.args.items.now c.deref.result.now are)) c.siblings_by.ensures.never
