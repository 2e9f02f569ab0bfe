use Rattle.std.proofs.Common.{◌∷◌, Bor, List, Some, ap, arith, inl, inr, length, map, refl, ℕ}
use Rattle.std.proofs.lemmas.List.{length-map}
use Rattle.std.proofs.lemmas.List.Elements.{Contains-get_or}
use Rattle.hprkit_words.specs.Ask.{affected, conflicts, graph, impact, merge}
use Rattle.hpr_kit.specs.Comes.{Comes, MayRead, Names}
use Rattle.hpr_kit.proofs.EndsLemmas.{if_told}
use Rattle.hpr_kit.proofs.LoadLemmas.{settled_decides, settled_taken}
use Rattle.hpr_kit.proofs.TakenLemmas.{not_words}
use Rattle.hpr_kit.proofs.commands.decide.Goals as goal

pub format_file-requires : goal.format_file-requires
format_file-requires g c = c.requires.names c.in-Format.file.now (rw c.in-Format.is refl)

pub place_file-requires : goal.place_file-requires
place_file-requires g c = c.requires.names c.in-At.file.now (rw c.in-At.is refl)

pub tag_file-requires : goal.tag_file-requires
tag_file-requires g c = c.requires.names c.in-Tag.file.now (rw c.in-Tag.is refl)

pub returns-in-Tag-clause-decides : goal.returns-in-Tag-clause-decides
returns-in-Tag-clause-decides g c = rw c.in-Tag.is c.tag_file.ensures.decides

pub returns-in-Format-clause-decides : goal.returns-in-Format-clause-decides
returns-in-Format-clause-decides g c = rw c.in-Format.is c.format_file.ensures.decides

pub returns-in-At-clause-decides : goal.returns-in-At-clause-decides
returns-in-At-clause-decides g c = rw c.in-At.is c.place_file.ensures.decides

pub returns-in_ok-printed-in-Help-clause-decides : goal.returns-in_ok-printed-in-Help-clause-decides
returns-in_ok-printed-in-Help-clause-decides g c = rw c.in-Help.is (if_told _ _ (λ files. c.in_ok-printed-in-Help.ensures), refl)

pub returns-in_ok-printed-in-Help-clause-taken : goal.returns-in_ok-printed-in-Help-clause-taken
returns-in_ok-printed-in-Help-clause-taken g c = not_words _ _ c.in_ok-printed-in-Help.ensures tt

pub returns-in_ok-printed-in-Version-clause-decides : goal.returns-in_ok-printed-in-Version-clause-decides
returns-in_ok-printed-in-Version-clause-decides g c = rw c.in-Version.is (if_told _ _ (λ files. c.in_ok-printed-in-Version.ensures), refl)

pub returns-in_ok-printed-in-Version-clause-taken : goal.returns-in_ok-printed-in-Version-clause-taken
returns-in_ok-printed-in-Version-clause-taken g c = not_words _ _ c.in_ok-printed-in-Version.ensures tt

pub graph_file-requires : goal.graph_file-requires
graph_file-requires g c = c.requires.names c.in-Graph.file.now (rw c.in-Graph.is refl)

pub impact_file-requires : goal.impact_file-requires
impact_file-requires g c = c.requires.names c.in-Impact.file.now (rw c.in-Impact.is refl)

pub affected_files-requires-clause-base : goal.affected_files-requires-clause-base
affected_files-requires-clause-base g c = c.requires.names c.in-Affected.base.now (rw c.in-Affected.is (inl refl))

pub affected_files-requires-clause-variant : goal.affected_files-requires-clause-variant
affected_files-requires-clause-variant g c = c.requires.names c.in-Affected.variant.now (rw c.in-Affected.is (inr refl))

pub returns-in-Graph-clause-decides : goal.returns-in-Graph-clause-decides
returns-in-Graph-clause-decides g c = rw c.in-Graph.is (settled_decides (graph c.in-Graph.file.now c.in-Graph.form) (g.S.Shelf.files c.args.shelf.now) (g.S.Shelf.faults c.args.shelf.now) (g.S.Shelf.faults c.graph_file.new.shelf) c.graph_file.result c.settle.result c.settle.ensures c.graph_file.ensures.halts)

pub returns-in-Graph-clause-taken : goal.returns-in-Graph-clause-taken
returns-in-Graph-clause-taken g c = settled_taken (λ files a. Comes (Some (graph c.in-Graph.file.now c.in-Graph.form)) files a) (Names (Some (graph c.in-Graph.file.now c.in-Graph.form))) (g.S.Shelf.files c.args.shelf.now) (g.S.Shelf.faults c.args.shelf.now) (g.S.Shelf.faults c.graph_file.new.shelf) c.graph_file.result c.settle.result c.settle.ensures c.graph_file.ensures.halts

pub returns-in-Impact-clause-decides : goal.returns-in-Impact-clause-decides
returns-in-Impact-clause-decides g c =
    rw c.in-Impact.is (settled_decides (impact c.in-Impact.file.now (map (λ w. w.now) c.in-Impact.points.items) c.in-Impact.form) (g.S.Shelf.files c.args.shelf.now) (g.S.Shelf.faults c.args.shelf.now) (g.S.Shelf.faults c.impact_file.new.shelf) c.impact_file.result c.settle-in-Impact.result c.settle-in-Impact.ensures (rw c.as_slice.ensures.value at c.impact_file.ensures.halts))

pub returns-in-Impact-clause-taken : goal.returns-in-Impact-clause-taken
returns-in-Impact-clause-taken g c = settled_taken (λ files a. Comes (Some (impact c.in-Impact.file.now (map (λ w. w.now) c.in-Impact.points.items) c.in-Impact.form)) files a) (Names (Some (impact c.in-Impact.file.now (map (λ w. w.now) c.in-Impact.points.items) c.in-Impact.form))) (g.S.Shelf.files c.args.shelf.now) (g.S.Shelf.faults c.args.shelf.now) (g.S.Shelf.faults c.impact_file.new.shelf) c.impact_file.result c.settle-in-Impact.result c.settle-in-Impact.ensures (rw c.as_slice.ensures.value at c.impact_file.ensures.halts)

pub returns-in-Affected-clause-decides : goal.returns-in-Affected-clause-decides
returns-in-Affected-clause-decides g c =
    rw c.in-Affected.is (settled_decides (affected c.in-Affected.base.now c.in-Affected.variant.now) (g.S.Shelf.files c.args.shelf.now) (g.S.Shelf.faults c.args.shelf.now) (g.S.Shelf.faults c.affected_files.new.shelf) c.affected_files.result c.settle-in-Affected.result c.settle-in-Affected.ensures c.affected_files.ensures.halts)

pub returns-in-Affected-clause-taken : goal.returns-in-Affected-clause-taken
returns-in-Affected-clause-taken g c =
    settled_taken (λ files a. Comes (Some (affected c.in-Affected.base.now c.in-Affected.variant.now)) files a) (MayRead (Some (affected c.in-Affected.base.now c.in-Affected.variant.now)) (g.S.Shelf.files c.args.shelf.now)) (g.S.Shelf.files c.args.shelf.now) (g.S.Shelf.faults c.args.shelf.now) (g.S.Shelf.faults c.affected_files.new.shelf) c.affected_files.result c.settle-in-Affected.result c.settle-in-Affected.ensures c.affected_files.ensures.halts

-- how many variants there are
pub conflicts_files-requires-clause-least : goal.conflicts_files-requires-clause-least
conflicts_files-requires-clause-least g c =
    let range = rw c.in-Conflicts.is at c.requires.in_range in
    let same = length-map c.in-Conflicts.variants.items (λ (s : Bor (List ℕ)). s.now) in
    let whole = ap length c.as_slice-in-Conflicts.ensures.value in
    omega (arith, same, whole, range.0)

pub conflicts_files-requires-clause-most : goal.conflicts_files-requires-clause-most
conflicts_files-requires-clause-most g c =
    let range = rw c.in-Conflicts.is at c.requires.in_range in
    let same = length-map c.in-Conflicts.variants.items (λ (s : Bor (List ℕ)). s.now) in
    let whole = ap length c.as_slice-in-Conflicts.ensures.value in
    omega (arith, same, whole, range.1)

pub conflicts_files-requires-clause-serves : goal.conflicts_files-requires-clause-serves
conflicts_files-requires-clause-serves g c =
    rw c.as_slice-in-Conflicts.ensures.value (λ i d low.
    (c.requires.names _ (rw c.in-Conflicts.is (Contains-get_or (c.in-Conflicts.base.now ∷ map (λ w. w.now) c.in-Conflicts.variants.items) i d low))))

pub returns-in-Conflicts-clause-decides : goal.returns-in-Conflicts-clause-decides
returns-in-Conflicts-clause-decides g c =
    rw c.in-Conflicts.is (settled_decides (conflicts c.in-Conflicts.base.now (map (λ w. w.now) c.in-Conflicts.variants.items)) (g.S.Shelf.files c.args.shelf.now) (g.S.Shelf.faults c.args.shelf.now) (g.S.Shelf.faults c.conflicts_files.new.shelf) c.conflicts_files.result c.settle-in-Conflicts.result c.settle-in-Conflicts.ensures (rw c.as_slice-in-Conflicts.ensures.value at c.conflicts_files.ensures.halts))

pub returns-in-Conflicts-clause-taken : goal.returns-in-Conflicts-clause-taken
returns-in-Conflicts-clause-taken g c =
    settled_taken (λ files a. Comes (Some (conflicts c.in-Conflicts.base.now (map (λ w. w.now) c.in-Conflicts.variants.items))) files a) (MayRead (Some (conflicts c.in-Conflicts.base.now (map (λ w. w.now) c.in-Conflicts.variants.items))) (g.S.Shelf.files c.args.shelf.now)) (g.S.Shelf.files c.args.shelf.now) (g.S.Shelf.faults c.args.shelf.now) (g.S.Shelf.faults c.conflicts_files.new.shelf) c.conflicts_files.result c.settle-in-Conflicts.result c.settle-in-Conflicts.ensures (rw c.as_slice-in-Conflicts.ensures.value at c.conflicts_files.ensures.halts)

pub merge_files-requires-clause-least : goal.merge_files-requires-clause-least
merge_files-requires-clause-least g c =
    let range = rw c.in-Merge.is at c.requires.in_range in
    let same = length-map c.in-Merge.variants.items (λ (s : Bor (List ℕ)). s.now) in
    let whole = ap length c.as_slice-in-Merge.ensures.value in
    omega (arith, same, whole, range.0)

pub merge_files-requires-clause-most : goal.merge_files-requires-clause-most
merge_files-requires-clause-most g c =
    let range = rw c.in-Merge.is at c.requires.in_range in
    let same = length-map c.in-Merge.variants.items (λ (s : Bor (List ℕ)). s.now) in
    let whole = ap length c.as_slice-in-Merge.ensures.value in
    omega (arith, same, whole, range.1)

pub merge_files-requires-clause-serves : goal.merge_files-requires-clause-serves
merge_files-requires-clause-serves g c =
    rw c.as_slice-in-Merge.ensures.value (λ i d low.
    (c.requires.names _ (rw c.in-Merge.is (Contains-get_or (c.in-Merge.base.now ∷ map (λ w. w.now) c.in-Merge.variants.items) i d low))))

pub returns-in-Merge-clause-decides : goal.returns-in-Merge-clause-decides
returns-in-Merge-clause-decides g c =
    rw c.in-Merge.is (settled_decides (merge c.in-Merge.base.now (map (λ w. w.now) c.in-Merge.variants.items) c.in-Merge.tries) (g.S.Shelf.files c.args.shelf.now) (g.S.Shelf.faults c.args.shelf.now) (g.S.Shelf.faults c.merge_files.new.shelf) c.merge_files.result c.settle-in-Merge.result c.settle-in-Merge.ensures (rw c.as_slice-in-Merge.ensures.value at c.merge_files.ensures.halts))

pub returns-in-Merge-clause-taken : goal.returns-in-Merge-clause-taken
returns-in-Merge-clause-taken g c =
    settled_taken (λ files a. Comes (Some (merge c.in-Merge.base.now (map (λ w. w.now) c.in-Merge.variants.items) c.in-Merge.tries)) files a) (MayRead (Some (merge c.in-Merge.base.now (map (λ w. w.now) c.in-Merge.variants.items) c.in-Merge.tries)) (g.S.Shelf.files c.args.shelf.now)) (g.S.Shelf.files c.args.shelf.now) (g.S.Shelf.faults c.args.shelf.now) (g.S.Shelf.faults c.merge_files.new.shelf) c.merge_files.result c.settle-in-Merge.result c.settle-in-Merge.ensures (rw c.as_slice-in-Merge.ensures.value at c.merge_files.ensures.halts)

pub merge_files-requires-clause-tries : goal.merge_files-requires-clause-tries
merge_files-requires-clause-tries g c =
    let range = rw c.in-Merge.is at c.requires.in_range in
    range.2
