-- The parts of a program as vertices: they are what its parts say, each once.
use Rattle.std.proofs.Common.{◌≡◌, ℕ, false, inl, inr, Option, Some, None, List, [], ◌∷◌, ◌++◌, map, length, slice_get, refl, sym, ap, ap₂, ◌∙◌, subst}
use Rattle.std.proofs.lemmas.List.{map-append, length-map}
use Rattle.hpr_terms.specs.declared.tag.Tag.{Tag}
use Rattle.hpr_terms.proofs.Facts.{unless, get_in_map, get_map}
use Rattle.hpr_syntax.specs.declared.rows.Content.{Content}
use Rattle.hpr_syntax.specs.declared.rows.Content.TheVariants.{If, While}
use Rattle.hpr_syntax.specs.Rows.{content_by}
use Rattle.hpr_syntax.specs.Body.{Body, done, action, branch, loop, part_count}
use Rattle.hpr_syntax.specs.Issued.{Issued}
use Rattle.hpr_syntax.specs.Nests.{Says}
use Rattle.hpr_syntax.specs.Parts.{tags_of, same_tag}
use Rattle.hpr_syntax.specs.Shape.{IsProgram, first_repeated, is_unissued, first_unissued}
use Rattle.hpr_syntax.specs.Tree.{Tree}
use Rattle.hpr_syntax.proofs.NoRefusal.{no_refusal}
use Rattle.hpr_syntax.proofs.Repeats.{places_once}
use Rattle.hpr_syntax.proofs.ShapeLemmas.{count_tags, tags_append}
use Rattle.hpr_syntax.proofs.TagLemmas.{same_tag_itself}
use Rattle.hpr_graph.specs.declared.vertex.Vertex.{Vertex}
use Rattle.hpr_graph.specs.declared.vertex.Vertex.TheVariants.{Entry, Init, Part, Final}
use Rattle.hpr_graph.specs.Rank.{parts_of}
use Rattle.hpr_graph.proofs.Lists.{place_of}
use Rattle.hpr_region.proofs.PartOrder.{parts_in, rows_parts, of_says}

-- the tags of the parts
abbrev tag_in : Vertex → Option Tag
tag_in Entry = None
tag_in (Init x) = None
tag_in (Part t c) = Some t
tag_in (Final x) = None

abbrev some_tags : List Tag → List (Option Tag)
some_tags ts = map (λ (t : Tag). Some t) ts

tags_in : (b : Body) → map tag_in (parts_in b) ≡ some_tags (tags_of b [])
tags_in done = refl
tags_in (action t d rest) = ap (λ (r : List (Option Tag)). Some t ∷ r) (tags_in rest)
tags_in (branch t e a b rest) =
    let tb : List Tag = tags_of b [] in
    let tc : List Tag = tags_of rest [] in
    let right : map tag_in (parts_in b ++ parts_in rest) ≡ some_tags (tags_of b tc) =
    map-append tag_in (parts_in b) (parts_in rest) ∙ ap₂ (λ (r s : List (Option Tag)). r ++ s) (tags_in b) (tags_in rest)
    ∙ sym (map-append (λ (t : Tag). Some t) tb tc) ∙ sym (ap some_tags (tags_append b [] tc)) in
    ap (λ (r : List (Option Tag)). Some t ∷ r)
    (map-append tag_in (parts_in a) (parts_in b ++ parts_in rest) ∙ ap₂ (λ (r s : List (Option Tag)). r ++ s) (tags_in a) right
    ∙ sym (map-append (λ (t : Tag). Some t) (tags_of a []) (tags_of b tc)) ∙ sym (ap some_tags (tags_append a [] (tags_of b tc))))
tags_in (loop t e b rest) =
    let tc : List Tag = tags_of rest [] in
    ap (λ (r : List (Option Tag)). Some t ∷ r)
    (map-append tag_in (parts_in b) (parts_in rest) ∙ ap₂ (λ (r s : List (Option Tag)). r ++ s) (tags_in b) (tags_in rest)
    ∙ sym (map-append (λ (t : Tag). Some t) (tags_of b []) tc) ∙ sym (ap some_tags (tags_append b [] tc)))

tag_place : (b : Body) (i : ℕ) (t : Tag) (c : Content) → slice_get (parts_in b) i ≡ Some (Part t c) → slice_get (tags_of b []) i ≡ Some t
tag_place b i t c h =
    let at : slice_get (some_tags (tags_of b [])) i ≡ Some (Some t) =
    subst (λ (ts : List (Option Tag)). slice_get ts i ≡ Some (Some t)) (tags_in b) (get_in_map tag_in (parts_in b) i (Part t c) h) in
    let (u, there, is) = get_map (λ (t : Tag). Some t) (tags_of b []) i (Some t) at in
    there ∙ is

-- a part says one thing
pub says_once : (p : Tree) → IsProgram p → (t : Tag) (c d : Content) → Says p.body t c → Says p.body t d → c ≡ d
says_once p prog t c d h k =
    let (i, at_i) = place_of (parts_in p.body) (Part t c) (of_says p.body t c h) in
    let (j, at_j) = place_of (parts_in p.body) (Part t d) (of_says p.body t d k) in
    let none : first_repeated same_tag [] (tags_of p.body []) ≡ None = (no_refusal p prog.shape).tags in
    let same : i ≡ j = places_once same_tag same_tag_itself [] (tags_of p.body []) i j t none (tag_place p.body i t c at_i) (tag_place p.body j t d at_j) in
    let vertex : Some (Part t c) ≡ Some (Part t d) = sym at_i ∙ ap (λ (n : ℕ). slice_get (parts_in p.body) n) same ∙ at_j in
    cc

-- as many parts as the program has
pub parts_count : (p : Tree) → length (parts_of p) ≡ part_count p.body
parts_count p =
    ap (λ (vs : List Vertex). length vs) (rows_parts None 0 p.body) ∙ sym (length-map (parts_in p.body) tag_in)
    ∙ ap (λ (ts : List (Option Tag)). length ts) (tags_in p.body) ∙ length-map (tags_of p.body []) (λ (t : Tag). Some t) ∙ count_tags p.body

-- where each part's tag was issued, none is found that wasn't
pub issued_all : (issued : Issued) (b : Body) (after : List Tag) → ((t : Tag) (c : Content) → Says b t c → is_unissued issued t ≡ false)
    → first_unissued issued after ≡ None → first_unissued issued (tags_of b after) ≡ None
issued_all issued done after all none = none
issued_all issued (action t d rest) after all none =
    unless (is_unissued issued t) t (first_unissued issued (tags_of rest after)) (all t (content_by d) (inl (refl, refl)))
    (issued_all issued rest after (λ u c h. all u c (inr h)) none)
issued_all issued (branch t e a b rest) after all none =
    unless (is_unissued issued t) t (first_unissued issued (tags_of a (tags_of b (tags_of rest after)))) (all t (If e) (inl (refl, refl)))
    (issued_all issued a (tags_of b (tags_of rest after)) (λ u c h. all u c (inr (inl h)))
    (issued_all issued b (tags_of rest after) (λ u c h. all u c (inr (inr (inl h))))
    (issued_all issued rest after (λ u c h. all u c (inr (inr (inr h)))) none)))
issued_all issued (loop t e b rest) after all none =
    unless (is_unissued issued t) t (first_unissued issued (tags_of b (tags_of rest after))) (all t (While e) (inl (refl, refl)))
    (issued_all issued b (tags_of rest after) (λ u c h. all u c (inr (inl h)))
    (issued_all issued rest after (λ u c h. all u c (inr (inr h))) none))
