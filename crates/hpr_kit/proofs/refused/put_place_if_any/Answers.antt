use Rattle.hpr_kit.proofs.refused.put_place_if_any.Goals as goal

pub put_place-requires : goal.put_place-requires
put_place-requires c = rw c.in-Syntax.is at c.requires
