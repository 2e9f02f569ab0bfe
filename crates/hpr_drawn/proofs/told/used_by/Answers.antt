use Rattle.std.proofs.Common.{subst, sym}
use Rattle.std.proofs.lemmas.Result.{IfOk-weaker}
use Rattle.hpr_graph.specs.declared.vertex.Vertex.{Vertex}
use Rattle.hpr_graph.specs.declared.vertex.Vertex.TheVariants.{Entry, Init}
use Rattle.hpr_drawn.specs.Told.{AreUses}
use Rattle.hpr_drawn.proofs.Uses.{entry_uses, init_uses, final_uses}
use Rattle.hpr_drawn.proofs.told.used_by.Goals as goal

pub returns-in-Entry : goal.returns-in-Entry
returns-in-Entry c = subst (λ (v : Vertex). AreUses v c.new.result.items) (sym c.in-Entry.is) (subst (AreUses Entry) (sym c.new.ensures.items) entry_uses)

pub returns-in-Init : goal.returns-in-Init
returns-in-Init c =
    let none = subst (AreUses (Init c.in-Init.field-0)) (sym c.new-in-Init.ensures.items) (init_uses c.in-Init.field-0) in
    subst (λ (v : Vertex). AreUses v c.new-in-Init.result.items) (sym c.in-Init.is) none

pub returns-in-Part : goal.returns-in-Part
returns-in-Part c =
    IfOk-weaker c.used_in.result _ _ (λ names h. subst (λ (v : Vertex). AreUses v names.items) (sym c.in-Part.is) (h c.in-Part.field-0)) c.used_in.ensures

pub returns-in-Final : goal.returns-in-Final
returns-in-Final c =
    IfOk-weaker c.name_alone.result _ _
    (λ names h. subst (λ (v : Vertex). AreUses v names.items) (sym c.in-Final.is) (final_uses c.in-Final.name names.items h))
    c.name_alone.ensures
