-- Where the parts of a program stand, by number: 0 is Enter, and the parts follow in preorder.
--
-- Place                  == a part's tag and what it says, its control parent, and for each conditional that
--                           has the part in its first branch, from the outermost on, the numbers of the parts
--                           in the second
-- places_of body n up others == the parts of a block in preorder, of which the first has the number n; this
--                               is their parent, and these are the second branches of the conditionals that
--                               have the block in their first
-- places tree            == the parts of a program
-- place_at places p      == the part with the number p, if there is one
-- others_at places p     == the second branches of the conditionals that have the part p in their first
-- IsParentOf spots up parent == what the place says of the control parent is this part with its branch, or
--                               that there is none
-- IsAmong spans q        == the number q is in one of these
-- IsParted places p q    == some conditional has the part p in its first branch and q in its second
use Rattle.std.specs.Prelude.{◌≡◌, ℕ, Bool, ◌+◌, ◌-◌, ◌<◌, ◌≤◌, true, false, Option, Some, None, List, [], ◌∷◌, ◌++◌, Contains, slice_get}
use Rattle.hpr_terms.specs.declared.tag.Tag.{Tag}
use Rattle.hpr_syntax.specs.declared.rows.Content.{Content}
use Rattle.hpr_syntax.specs.declared.rows.Content.TheVariants.{If, While}
use Rattle.hpr_syntax.specs.Rows.{content_by}
use Rattle.hpr_syntax.specs.Body.{Body, done, action, branch, loop, part_count}
use Rattle.hpr_syntax.specs.Tree.{Tree}
use Rattle.hpr_paths.specs.Spots.{Spot, tag_at}
use Rattle.hpr_build.specs.declared.places.Parent.{Parent}
use Rattle.hpr_build.specs.declared.places.Span.{Span}

pub record Place : Type 0 where
  pub tag : Tag
  pub content : Content
  pub parent : Option Parent
  pub others : List Span

abbrev pub place_of : Tag → Content → Option Parent → List Span → Place
place_of t c up others = record { tag = t; content = c; parent = up; others = others }

abbrev pub places_of : Body → ℕ → Option Parent → List Span → List Place
places_of done n up others = []
places_of (action t d rest) n up others = place_of t (content_by d) up others ∷ places_of rest (n + 1) up others
places_of (branch t e a b rest) n up others =
    let no = n + 1 + part_count a in
    let next = no + part_count b in
    place_of t (If e) up others
    ∷ (places_of a (n + 1) (Some (record { point = n; label = true })) (others ++ record { from = no; to = next } ∷ [])
    ++ (places_of b no (Some (record { point = n; label = false })) others ++ places_of rest next up others))
places_of (loop t e b rest) n up others =
    let next = n + 1 + part_count b in
    place_of t (While e) up others ∷ (places_of b (n + 1) (Some (record { point = n; label = true })) others ++ places_of rest next up others)

abbrev pub places : Tree → List Place
places tree = places_of tree.body 1 None []

abbrev pub place_at : List Place → ℕ → Option Place
place_at places p = slice_get places (p - 1)

abbrev pub others_of : Option Place → List Span
others_of None = []
others_of (Some p) = p.others

abbrev pub others_at : List Place → ℕ → List Span
others_at places p = others_of (place_at places p)

abbrev pub IsParentOf : List Spot → Option Parent → Option (Tag × Bool) → Type 0
IsParentOf spots None parent = parent ≡ None
IsParentOf spots (Some up) parent = (w : Tag) × (tag_at spots up.point ≡ Some w) × (parent ≡ Some (w, up.label))

abbrev pub IsAmong : List Span → ℕ → Type 0
IsAmong spans q = (r : Span) × Contains spans r × (r.from ≤ q) × (q < r.to)

abbrev pub IsParted : List Place → ℕ → ℕ → Type 0
IsParted places p q = IsAmong (others_at places p) q
