use Rattle.std.proofs.Common.{◌≡◌, ◌∙◌, ℕ, ◌+◌, List, length, map, ap, sym, subst, arith, rules}
use Rattle.hpr_terms.specs.declared.tag.Tag.{Tag}
use Rattle.hpr_syntax.specs.Issued.{issued_to}
use Rattle.hpr_graph.specs.declared.vertex.Vertex.{Vertex}
use Rattle.hpr_graph.specs.Graphs.{IsOnce, name_of}
use Rattle.hpr_graph.specs.InOrder.{Ascends}
use Rattle.hpr_graph.specs.Order.{vertex_cmp}
use Rattle.hpr_graph.specs.Split.{renamed, split_issued, with_new_tags}
use Rattle.hpr_split.proofs.Renamed.{new_tags_length, renamed_names}
use Rattle.hpr_split.proofs.NewTags.{below_ranked, renamed_once}
use Rattle.hpr_split.proofs.tags.split_by.Goals as goal

-- all vertices of the graph renamed
all_are : (us parts ps vs ws : List Vertex) (z n : ℕ) → us ≡ map (renamed (with_new_tags n ps)) ws → n ≡ z → ps ≡ parts → ws ≡ vs → us ≡ map (renamed (with_new_tags z parts)) vs
all_are us parts ps vs ws z n is a b c =
    is ∙ ap (λ (m : ℕ). map (renamed (with_new_tags m ps)) ws) a ∙ ap (λ (qs : List Vertex). map (renamed (with_new_tags z qs)) ws) b ∙ ap (map (renamed (with_new_tags z parts))) c

pub with_vertices-requires-clause-once : goal.with_vertices-requires-clause-once
with_vertices-requires-clause-once c =
    let z : ℕ = issued_to 0 c.args.issued.now in
    let all = all_are c.in_ok-vertices.vertices.items c.args.parts.items _ c.args.graph.now.vertices _ z _ c.in_ok-vertices.ensures c.get-serial.ensures c.deref.ensures.value c.vertices.ensures.vertices in
    subst (λ (us : List Vertex). IsOnce us) (sym all)
    (renamed_once z c.args.parts.items c.requires.parts c.args.graph.now.vertices
    (below_ranked c.args.graph.now.vertices c.args.rank.now c.args.issued.now c.requires.ranked c.requires.serials) c.vertices.ensures.numbered.once)

pub with_vertices-requires-clause-names : goal.with_vertices-requires-clause-names
with_vertices-requires-clause-names c =
    let z : ℕ = issued_to 0 c.args.issued.now in
    let all = all_are c.in_ok-vertices.vertices.items c.args.parts.items _ c.args.graph.now.vertices _ z _ c.in_ok-vertices.ensures c.get-serial.ensures c.deref.ensures.value c.vertices.ensures.vertices in
    ap (map name_of) all ∙ renamed_names (with_new_tags z c.args.parts.items) c.args.graph.now.vertices

pub returns-clause-issued : goal.returns-clause-issued
returns-clause-issued c =
    let tagged = ap (λ (rs : List (Vertex × Tag)). length rs) c.in_ok-renamed.ensures in
    let count : c.len.result ≡ length c.in_ok-renamed.renamed.items = omega (arith, c.len.ensures, c.args.parts.ok.0, tagged, new_tags_length c.get-serial.result c.args.parts.items) in
    c.in_ok-issued.ensures.issued ∙ ap (λ (n : ℕ). split_issued n c.args.issued.now) count

pub returns-clause-author : goal.returns-clause-author
returns-clause-author c =
    let tagged = ap (λ (rs : List (Vertex × Tag)). length rs) c.in_ok-renamed.ensures in
    let count : c.len.result ≡ length c.in_ok-renamed.renamed.items = omega (arith, c.len.ensures, c.args.parts.ok.0, tagged, new_tags_length c.get-serial.result c.args.parts.items) in
    c.in_ok-issued.ensures.author ∙ ap (λ (n : ℕ). issued_to 0 c.args.issued.now + n) count

pub returns-clause-rank : goal.returns-clause-rank
returns-clause-rank c = search rules

pub all_renamed-requires-clause-ascend : goal.all_renamed-requires-clause-ascend
all_renamed-requires-clause-ascend c = subst (λ (vs : List Vertex). Ascends vertex_cmp vs) (sym c.deref.ensures.value) c.requires.ascend

pub all_renamed-requires-clause-serials : goal.all_renamed-requires-clause-serials
all_renamed-requires-clause-serials c = omega (arith, c.requires.fits, c.get-serial.ensures, ap (λ (vs : List Vertex). length vs) c.deref.ensures.value)

pub all_renamed-requires-2-clause-ascend : goal.all_renamed-requires-2-clause-ascend
all_renamed-requires-2-clause-ascend c = subst (λ (vs : List Vertex). Ascends vertex_cmp vs) (sym c.deref-2.ensures.value) c.requires.ascend

pub all_renamed-requires-2-clause-serials : goal.all_renamed-requires-2-clause-serials
all_renamed-requires-2-clause-serials c = omega (arith, c.requires.fits, c.get-serial.ensures, ap (λ (vs : List Vertex). length vs) c.deref-2.ensures.value)

pub returns-clause-others : goal.returns-clause-others
returns-clause-others c = c.in_ok-issued.ensures.others

pub returns-clause-renamed : goal.returns-clause-renamed
returns-clause-renamed c = c.in_ok-renamed.ensures ∙ ap (λ (n : ℕ). with_new_tags n c.args.parts.items) c.get-serial.ensures

pub with_new_tags-requires : goal.with_new_tags-requires
with_new_tags-requires c = omega (arith, c.requires.fits, c.get-serial.ensures)
