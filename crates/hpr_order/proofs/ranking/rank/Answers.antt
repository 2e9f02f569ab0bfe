use Rattle.std.proofs.Common.{◌≡◌, false, true, IsTrue, [], ◌∷◌, ◌∙◌, sym}
use Rattle.std.proofs.lemmas.Result.{IfOk-weaker}
use Rattle.hpr_graph.specs.Rank.{parts_of, AreJoined, IsRank}
use Rattle.hpr_order.proofs.Ranks.{rank_from_first, rank_from_second}
use Rattle.hpr_order.proofs.ranking.rank.Goals as goal

pub returns-then-is_same : goal.returns-then-is_same
returns-then-is_same c =
    let a = c.args.a.now in
    let b = c.args.b.now in
    let base = c.args.base.now in
    IfOk-weaker c.rank_of.result (λ v. AreJoined (parts_of a ∷ parts_of base ∷ []) (parts_of b) v.items) (λ v. IsRank a b base v.items)
    (λ v joined. rank_from_second a b base v.items (c.is_same.ensures.0 c.if-is_same.true) joined)
    c.rank_of.ensures

pub returns-else-is_same : goal.returns-else-is_same
returns-else-is_same c =
    let a = c.args.a.now in
    let b = c.args.b.now in
    let base = c.args.base.now in
    IfOk-weaker c.rank_of-else-is_same.result (λ v. AreJoined (parts_of b ∷ parts_of base ∷ []) (parts_of a) v.items) (λ v. IsRank a b base v.items)
    (λ v joined. rank_from_first a b base v.items (λ same. (let is : IsTrue c.is_same.result = c.is_same.ensures.1 same in let no : true ≡ false = sym is ∙ c.if-is_same.false in cc)) joined)
    c.rank_of-else-is_same.ensures
