-- What stands in a block has a tag that is listed.
use Rattle.std.proofs.Common.{◌≡◌, List, ◌∷◌, Contains, sym, subst, inl, inr}
use Rattle.hpr_terms.specs.declared.tag.Tag.{Tag}
use Rattle.hpr_terms.proofs.Facts.{in_here, in_later}
use Rattle.hpr_syntax.specs.Body.{Body, done, action, branch, loop}
use Rattle.hpr_syntax.specs.Parts.{tags_of}
use Rattle.hpr_syntax.specs.Skeleton.{at, StandsIn, skeleton}
use Rattle.hpr_syntax.proofs.TagLemmas.{point_tag}

behind : (b : Body) (after : List Tag) (u : Tag) → Contains after u → Contains (tags_of b after) u
behind done after u h = h
behind (action t d rest) after u h = in_later t u (tags_of rest after) (behind rest after u h)
behind (branch t e a b rest) after u h =
    in_later t u (tags_of a (tags_of b (tags_of rest after))) (behind a (tags_of b (tags_of rest after)) u (behind b (tags_of rest after) u (behind rest after u h)))
behind (loop t e b rest) after u h = in_later t u (tags_of b (tags_of rest after)) (behind b (tags_of rest after) u (behind rest after u h))

first : (t u : Tag) (ts : List Tag) → at u ≡ at t → Contains (t ∷ ts) u
first t u ts e = subst (λ (v : Tag). Contains (t ∷ ts) v) (sym (point_tag u t e)) (in_here t ts)

pub listed : (b : Body) (after : List Tag) (u : Tag) → StandsIn (skeleton b) (at u) → Contains (tags_of b after) u
listed done after u h = absurd h
listed (action t d rest) after u (inl e) = first t u (tags_of rest after) e
listed (action t d rest) after u (inr h) = in_later t u (tags_of rest after) (listed rest after u h)
listed (branch t e a b rest) after u (inl is) = first t u (tags_of a (tags_of b (tags_of rest after))) is
listed (branch t e a b rest) after u (inr h) =
    let right = tags_of b (tags_of rest after) in
    in_later t u (tags_of a right) (elim h [
      | inl left ↦ listed a right u left
      | inr more ↦ behind a right u (elim more [
        | inl other ↦ listed b (tags_of rest after) u other
        | inr later ↦ behind b (tags_of rest after) u (listed rest after u later)
      ])
    ])
listed (loop t e b rest) after u (inl is) = first t u (tags_of b (tags_of rest after)) is
listed (loop t e b rest) after u (inr h) =
    in_later t u (tags_of b (tags_of rest after)) (elim h [
      | inl inside ↦ listed b (tags_of rest after) u inside
      | inr later ↦ behind b (tags_of rest after) u (listed rest after u later)
    ])
