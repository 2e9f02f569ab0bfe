-- The tags of the points, and that none stands twice in a program.
use Rattle.std.proofs.Common.{◌≡◌, ◌<◌, ◌+◌, ℕ, zero, suc, true, inl, inr, Option, Some, None, List, [], ◌∷◌, ◌++◌, map, length, refl, sym, ap, ◌∙◌}
use Rattle.std.specs.List.{slice_get}
use Rattle.std.specs.Option.{option_map, option_and_then}
use Rattle.std.proofs.lemmas.Option.{same_Some, slice_get-map}
use Rattle.std.proofs.lemmas.List.{map-append}
use Rattle.hpr_terms.specs.declared.tag.Tag.{Tag}
use Rattle.hpr_syntax.specs.Body.{Body, done, action, branch, loop, part_count}
use Rattle.hpr_syntax.specs.Tree.{Tree}
use Rattle.hpr_syntax.specs.Parts.{tags_of, same_tag}
use Rattle.hpr_syntax.specs.Shape.{IsProgram, first_repeated}
use Rattle.hpr_syntax.specs.Skeleton.{Point}
use Rattle.hpr_syntax.proofs.NoRefusal.{no_refusal}
use Rattle.hpr_syntax.proofs.Repeats.{places_once}
use Rattle.hpr_syntax.proofs.ShapeLemmas.{tags_append}
use Rattle.hpr_syntax.proofs.TagLemmas.{same_tag_itself}
use Rattle.hpr_paths.specs.declared.spot.Step.{Step}
use Rattle.hpr_paths.specs.Spots.{Role, enter, part, exit, Spot, point_of, tag_of, role_at, tag_at}
use Rattle.hpr_paths.specs.Successors.{first_step, spot_of, spots_of, spots}
use Rattle.hpr_paths.specs.Numbers.{IsNumberOf}
use Rattle.hpr_paths.proofs.Stands.{WholeIn, end_of, whole_of_get}
use Rattle.hpr_paths.proofs.Names.{role_of_get, get_of_role}
use Rattle.hpr_paths.proofs.Sound.{part_in, get_below}

abbrev Tags : Type 0
Tags = List (Option Tag)

abbrev pub spot_tags : List Spot → Tags
spot_tags spots = map (λ (s : Spot). tag_of s.role) spots

abbrev pub some_tags : List Tag → Tags
some_tags tags = map (λ (t : Tag). Some t) tags

pub tags_of_spots : (b : Body) (n : ℕ) (f : Step) (w : List ℕ) → spot_tags (spots_of b n f w) ≡ some_tags (tags_of b [])
tags_of_spots done n f w = refl
tags_of_spots (action t d rest) n f w = ap (λ (r : Tags). Some t ∷ r) (tags_of_spots rest (n + 1) f w)
tags_of_spots (branch t e a b rest) n f w =
    let no : ℕ = n + 1 + part_count a in
    let next : ℕ = no + part_count b in
    let after : Step = first_step rest next f in
    let A : List Spot = spots_of a (n + 1) after w in
    let B : List Spot = spots_of b no after w in
    let C : List Spot = spots_of rest next f w in
    let tc : List Tag = tags_of rest [] in
    let tb : List Tag = tags_of b [] in
    let right : some_tags (tags_of b tc) ≡ some_tags tb ++ some_tags tc = ap some_tags (tags_append b [] tc) ∙ map-append (λ (t : Tag). Some t) tb tc in
    let left : some_tags (tags_of a (tags_of b tc)) ≡ some_tags (tags_of a []) ++ some_tags (tags_of b tc) = ap some_tags (tags_append a [] (tags_of b tc)) ∙ map-append (λ (t : Tag). Some t) (tags_of a []) (tags_of b tc) in
    let spots_right : spot_tags (B ++ C) ≡ some_tags tb ++ some_tags tc =
    map-append (λ (s : Spot). tag_of s.role) B C ∙ ap (λ (r : Tags). r ++ spot_tags C) (tags_of_spots b no after w) ∙ ap (λ (r : Tags). some_tags tb ++ r) (tags_of_spots rest next f w) in
    let spots_left : spot_tags (A ++ (B ++ C)) ≡ some_tags (tags_of a []) ++ (some_tags tb ++ some_tags tc) =
    map-append (λ (s : Spot). tag_of s.role) A (B ++ C) ∙ ap (λ (r : Tags). r ++ spot_tags (B ++ C)) (tags_of_spots a (n + 1) after w) ∙ ap (λ (r : Tags). some_tags (tags_of a []) ++ r) spots_right in
    ap (λ (r : Tags). Some t ∷ r) (spots_left ∙ sym (left ∙ ap (λ (r : Tags). some_tags (tags_of a []) ++ r) right))
tags_of_spots (loop t e b rest) n f w =
    let next : ℕ = n + 1 + part_count b in
    let again : Step = record { to = n; back = true } in
    let B : List Spot = spots_of b (n + 1) again (w ++ n ∷ []) in
    let C : List Spot = spots_of rest next f w in
    let tc : List Tag = tags_of rest [] in
    let tb : List Tag = tags_of b [] in
    let right : some_tags (tags_of b tc) ≡ some_tags tb ++ some_tags tc = ap some_tags (tags_append b [] tc) ∙ map-append (λ (t : Tag). Some t) tb tc in
    let spots_right : spot_tags (B ++ C) ≡ some_tags tb ++ some_tags tc =
    map-append (λ (s : Spot). tag_of s.role) B C ∙ ap (λ (r : Tags). r ++ spot_tags C) (tags_of_spots b (n + 1) again (w ++ n ∷ [])) ∙ ap (λ (r : Tags). some_tags tb ++ r) (tags_of_spots rest next f w) in
    ap (λ (r : Tags). Some t ∷ r) (spots_right ∙ sym right)

pub tags_of_whole : (t : Tree) → spot_tags (spots t) ≡ None ∷ (some_tags (tags_of t.body []) ++ None ∷ [])
tags_of_whole t =
    let rows : List Spot = spots_of t.body 1 (end_of t) [] in
    let last : List Spot = spot_of [] [] (exit t.finals) ∷ [] in
    ap (λ (r : Tags). None ∷ r) (map-append (λ (s : Spot). tag_of s.role) rows last ∙ ap (λ (r : Tags). r ++ None ∷ []) (tags_of_spots t.body 1 (end_of t) []))

tag_within : (ts : List Tag) (k : ℕ) (t : Tag) → slice_get (some_tags ts ++ None ∷ []) k ≡ Some (Some t) → slice_get ts k ≡ Some t
tag_within [] zero t h = absurd cc
tag_within [] (suc k) t h = absurd cc
tag_within (u ∷ ts) zero t h = same_Some (Some u) (Some t) h
tag_within (u ∷ ts) (suc k) t h = tag_within ts k t h

at_place : (ts : List Tag) (p : ℕ) (t : Tag) → slice_get (None ∷ (some_tags ts ++ None ∷ [])) p ≡ Some (Some t) → (k : ℕ) × (p ≡ suc k) × (slice_get ts k ≡ Some t)
at_place ts zero t h = absurd cc
at_place ts (suc k) t h = (k, refl, tag_within ts k t h)

get_of_tag : (S : List Spot) (p : ℕ) (t : Tag) → tag_at S p ≡ Some t → (s : Spot) × (slice_get S p ≡ Some s) × (tag_of s.role ≡ Some t)
get_of_tag [] p t h = absurd cc
get_of_tag (x ∷ xs) zero t h = (x, refl, h)
get_of_tag (x ∷ xs) (suc k) t h = get_of_tag xs k t h

-- the place of a tag among the tags of the parts
pub tag_place : (S : List Spot) (ts : List Tag) (p : ℕ) (t : Tag) → spot_tags S ≡ None ∷ (some_tags ts ++ None ∷ []) → tag_at S p ≡ Some t → (k : ℕ) × (p ≡ suc k) × (slice_get ts k ≡ Some t)
tag_place S ts p t all is =
    let g = get_of_tag S p t is in
    let f : Spot → Option Tag = λ s. tag_of s.role in
    at_place ts p t (sym (ap (λ (r : Tags). slice_get r p) all) ∙ slice_get-map f S p ∙ ap (option_map f) g.1 ∙ ap (λ (o : Option Tag). Some o) g.2)

enter_first : (t : Tree) (p : ℕ) (s : Spot) → WholeIn t p s → s.role ≡ enter → p ≡ 0
enter_first t p s (inl h) is = h.0
enter_first t p s (inr (inl h)) is = let g = part_in t.body 1 (end_of t) [] p s h in let r : part g.0 g.1 ≡ enter = sym g.2 ∙ is in absurd cc
enter_first t p s (inr (inr h)) is = let r : exit t.finals ≡ enter = sym (ap (λ (q : Spot). q.role) h.1) ∙ is in absurd cc

exit_last : (t : Tree) (p : ℕ) (s : Spot) (names : List (List ℕ)) → WholeIn t p s → s.role ≡ exit names → p ≡ part_count t.body + 1
exit_last t p s names (inl h) is = let r : enter ≡ exit names = sym (ap (λ (q : Spot). q.role) h.1) ∙ is in absurd cc
exit_last t p s names (inr (inl h)) is = let g = part_in t.body 1 (end_of t) [] p s h in let r : part g.0 g.1 ≡ exit names = sym g.2 ∙ is in absurd cc
exit_last t p s names (inr (inr h)) is = h.0

enter_at : (t : Tree) (p : ℕ) → role_at (spots t) p ≡ Some enter → p ≡ 0
enter_at t p h = let g = get_of_role (spots t) p enter h in enter_first t p g.0 (whole_of_get t p g.0 g.1) g.2

exit_at : (t : Tree) (p : ℕ) (names : List (List ℕ)) → role_at (spots t) p ≡ Some (exit names) → p ≡ part_count t.body + 1
exit_at t p names h = let g = get_of_role (spots t) p (exit names) h in exit_last t p g.0 names (whole_of_get t p g.0 g.1) g.2

part_once : (t : Tree) (p q : ℕ) (v : Tag) → IsProgram t → tag_at (spots t) p ≡ Some v → tag_at (spots t) q ≡ Some v → p ≡ q
part_once t p q v prog a b =
    let tags : List Tag = tags_of t.body [] in
    let x = tag_place (spots t) tags p v (tags_of_whole t) a in
    let y = tag_place (spots t) tags q v (tags_of_whole t) b in
    let none : first_repeated same_tag [] tags ≡ None = (no_refusal t prog.shape).tags in
    x.1 ∙ ap (λ (k : ℕ). suc k) (places_once same_tag same_tag_itself [] tags x.0 y.0 v none x.2 y.2) ∙ sym y.1

once_at : (t : Tree) (p q : ℕ) (r r' : Role) → IsProgram t → role_at (spots t) p ≡ Some r → role_at (spots t) q ≡ Some r' → point_of r ≡ point_of r' → p ≡ q
once_at t p q enter enter prog a b is = enter_at t p a ∙ sym (enter_at t q b)
once_at t p q enter (part v c) prog a b is = absurd cc
once_at t p q enter (exit names) prog a b is = absurd cc
once_at t p q (part u d) enter prog a b is = absurd cc
once_at t p q (part u d) (part v c) prog a b is =
    let same : u ≡ v = cc in
    part_once t p q v prog (ap (option_and_then tag_of) a ∙ ap (λ (w : Tag). Some w) same) (ap (option_and_then tag_of) b)
once_at t p q (part u d) (exit names) prog a b is = absurd cc
once_at t p q (exit names) enter prog a b is = absurd cc
once_at t p q (exit names) (part v c) prog a b is = absurd cc
once_at t p q (exit names) (exit others) prog a b is = exit_at t p names a ∙ sym (exit_at t q others b)

pub number_once : (t : Tree) (p q : ℕ) (a : Point) → IsProgram t → IsNumberOf (spots t) p a → IsNumberOf (spots t) q a → p ≡ q
number_once t p q a prog x y = once_at t p q x.0 y.0 prog x.1 y.1 (sym x.2 ∙ y.2)

pub number_some : (t : Tree) (p : ℕ) → p < length (spots t) → (a : Point) × IsNumberOf (spots t) p a
number_some t p l = let g = get_below (spots t) p l in (point_of g.0.role, (g.0.role, role_of_get (spots t) p g.0 g.1, refl))
