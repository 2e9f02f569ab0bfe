use Rattle.hpr_syntax.proofs.PartBound.{few_parts}
use Rattle.hpr_edit.specs.InPlace.{tree_of}
use Rattle.hpr_edit.proofs.Tags.{once}
use Rattle.hpr_edit.proofs.apply.carry_out.Goals as goal

pub insert-requires-clause-once : goal.insert-requires-clause-once
insert-requires-clause-once c = once (tree_of c.args.issued.now c.args.body.now c.args.finals.now.items) c.requires

pub insert-requires-clause-few : goal.insert-requires-clause-few
insert-requires-clause-few c = few_parts (tree_of c.args.issued.now c.args.body.now c.args.finals.now.items) c.requires

pub delete-requires : goal.delete-requires
delete-requires c = record { once = once (tree_of c.args.issued.now c.args.body.now c.args.finals.now.items) c.requires }

pub relocate-requires-clause-once : goal.relocate-requires-clause-once
relocate-requires-clause-once c = once (tree_of c.args.issued.now c.args.body.now c.args.finals.now.items) c.requires

pub relocate-requires-clause-few : goal.relocate-requires-clause-few
relocate-requires-clause-few c = few_parts (tree_of c.args.issued.now c.args.body.now c.args.finals.now.items) c.requires

pub set-requires : goal.set-requires
set-requires c = record { once = once (tree_of c.args.issued.now c.args.body.now c.args.finals.now.items) c.requires }

pub wrap-requires-clause-once : goal.wrap-requires-clause-once
wrap-requires-clause-once c = once (tree_of c.args.issued.now c.args.body.now c.args.finals.now.items) c.requires

pub wrap-requires-clause-few : goal.wrap-requires-clause-few
wrap-requires-clause-few c = few_parts (tree_of c.args.issued.now c.args.body.now c.args.finals.now.items) c.requires

pub unwrap-requires : goal.unwrap-requires
unwrap-requires c = record { once = once (tree_of c.args.issued.now c.args.body.now c.args.finals.now.items) c.requires }

pub returns-in-Delete-clause-made : goal.returns-in-Delete-clause-made
returns-in-Delete-clause-made c = rw c.in-Delete.is (c.delete.ensures.made c.args.issued.now c.args.finals.now.items c.args.author c.requires)

pub returns-in-Move-clause-made : goal.returns-in-Move-clause-made
returns-in-Move-clause-made c = rw c.in-Move.is (c.relocate.ensures.made c.args.issued.now c.args.finals.now.items c.args.author c.requires)

pub returns-in-Set-clause-made : goal.returns-in-Set-clause-made
returns-in-Set-clause-made c = rw c.in-Set.is (c.set.ensures.made c.args.issued.now c.args.finals.now.items c.args.author c.requires)

pub returns-in-Unwrap-clause-made : goal.returns-in-Unwrap-clause-made
returns-in-Unwrap-clause-made c = rw c.in-Unwrap.is (c.unwrap.ensures.made c.args.issued.now c.args.finals.now.items c.args.author c.requires)

pub returns-in-Finals-clause-made : goal.returns-in-Finals-clause-made
returns-in-Finals-clause-made c = rw c.in-Finals.is (c.name_finals.ensures.made c.args.issued.now c.args.body.now c.args.author c.requires)
