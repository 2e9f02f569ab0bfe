-- Whether a point defines a name is decided.
use Rattle.std.proofs.Common.{◌≡◌, ℕ, List, Some, refl, sym, subst, inl, inr}
use Rattle.hpr_terms.specs.declared.tag.Tag.{Tag}
use Rattle.hpr_syntax.specs.declared.rows.Content.{Content}
use Rattle.hpr_syntax.specs.declared.rows.Content.TheVariants.{If, While}
use Rattle.hpr_syntax.specs.Body.{Body, done, action, branch, loop}
use Rattle.hpr_syntax.specs.Rows.{content_by, assigned}
use Rattle.hpr_syntax.specs.Skeleton.{Point, enter, at, exit, StandsIn, Distinct, skeleton}
use Rattle.hpr_syntax.specs.Paths.{DefinesAt}
use Rattle.hpr_syntax.specs.Nests.{Says}
use Rattle.hpr_paths.proofs.Ahead.{stands_in?}
use Rattle.hpr_paths.proofs.Says.{says_stands}
use Rattle.hpr_paths.proofs.SkeletonTags.{same_at}
use Rattle.hpr_meaning.proofs.FlowWays.{defines_part, assigns_at}
use Rattle.hpr_meaning.proofs.Items.{assigns?}

-- a part that stands in a block says something
said_at : (B : Body) (t : Tag) → StandsIn (skeleton B) (at t) → (c : Content) × Says B t c
said_at done t h = absurd h
said_at (action v d k) t (inl h) = (content_by d, inl (same_at h, refl))
said_at (action v d k) t (inr h) = let g = said_at k t h in (g.0, inr g.1)
said_at (branch v e a b k) t (inl h) = (If e, inl (same_at h, refl))
said_at (branch v e a b k) t (inr (inl h)) = let g = said_at a t h in (g.0, inr (inl g.1))
said_at (branch v e a b k) t (inr (inr (inl h))) = let g = said_at b t h in (g.0, inr (inr (inl g.1)))
said_at (branch v e a b k) t (inr (inr (inr h))) = let g = said_at k t h in (g.0, inr (inr (inr g.1)))
said_at (loop v e b k) t (inl h) = (While e, inl (same_at h, refl))
said_at (loop v e b k) t (inr (inl h)) = let g = said_at b t h in (g.0, inr (inl g.1))
said_at (loop v e b k) t (inr (inr h)) = let g = said_at k t h in (g.0, inr (inr g.1))

no_part_enter : {t : Tag} → enter ≡ at t → ⊥
no_part_enter e = absurd cc

no_part_exit : {t : Tag} → exit ≡ at t → ⊥
no_part_exit e = absurd cc

pub defines? : (B : Body) → Distinct (skeleton B) → (x : List ℕ) (p : Point) → Dec (DefinesAt B x p)
defines? B di x enter = no (λ h. no_part_enter h.2)
defines? B di x exit = no (λ h. no_part_exit h.2)
defines? B di x (at t) = go (stands_in? (skeleton B) (at t))
  where
    by : (c : Content) → Says B t c → Dec (assigned c ≡ Some x) → Dec (DefinesAt B x (at t))
    by c s (yes e) = yes (defines_part B x t c e s)
    by c s (no n) = no (λ h. n (assigns_at B di x t c s h))

    go : Dec (StandsIn (skeleton B) (at t)) → Dec (DefinesAt B x (at t))
    go (yes h) = let g = said_at B t h in by g.0 g.1 (assigns? g.0 x)
    go (no n) = no (λ h. n (subst (λ v. StandsIn (skeleton B) (at v)) (sym (same_at h.2)) (says_stands B h.0 h.1 h.3)))
