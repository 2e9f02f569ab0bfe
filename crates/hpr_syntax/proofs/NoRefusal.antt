-- What it means that a tree has no refusal, test by test.
use Rattle.std.proofs.Common.{◌≡◌, [], Bool, false, Option, Some, None, refl}
use Rattle.std.specs.Str.{bytes_eq}
use Rattle.std.specs.Option.{option_or, option_map}
use Rattle.hpr_terms.specs.declared.limits.TheConstants.{MAX_LEVELS}
use Rattle.hpr_syntax.specs.declared.shape.ShapeError.{ShapeError}
use Rattle.hpr_syntax.specs.declared.shape.ShapeError.TheVariants.{DuplicateTag, Unissued, TooDeep, ExprTooLarge, WrongName, DuplicateFinal}
use Rattle.hpr_terms.specs.declared.tag.Tag.{Tag}
use Rattle.hpr_terms.specs.declared.expr.Expr.{Expr}
use Rattle.hpr_terms.proofs.Facts.{if_none}
use Rattle.hpr_syntax.specs.declared.rows.Content.{Content}
use Rattle.hpr_syntax.specs.declared.rows.Content.TheVariants.{If, While}
use Rattle.hpr_syntax.specs.Action.{Action}
use Rattle.hpr_syntax.specs.Body.{Body, action, branch, loop, part_count}
use Rattle.hpr_syntax.specs.Rows.{content_by}
use Rattle.hpr_syntax.specs.Parts.{tags_of}
use Rattle.hpr_syntax.specs.Tree.{Tree}
use Rattle.hpr_syntax.specs.Shape.{shape, too_many, first_repeated_tag, first_unissued, first_deep, says_large, is_wrong, first_where, first_repeated}

pub record HasNoRefusal (t : Tree) : Type 0 where
  pub tags : first_repeated_tag t.body ≡ None
  pub issued : first_unissued t.issued (tags_of t.body []) ≡ None
  pub levels : first_deep MAX_LEVELS t.body ≡ None
  pub expressions : first_where says_large t.body ≡ None
  pub variables : first_where is_wrong t.body ≡ None
  pub parts : too_many (part_count t.body) ≡ None
  pub names : first_repeated bytes_eq [] t.finals ≡ None

pub or_none : {X : Type 0} (a b : Option X) → option_or a b ≡ None → (a ≡ None) × (b ≡ None)
or_none None None h = (refl, refl)
or_none None (Some y) h = absurd cc
or_none (Some x) b h = absurd cc

-- where no part of a block passes a test, its first part doesn't, and none in it and behind it does
module _ (test : Content → Bool) (t : Tag) where
  pub none_in_action : (d : Action) (rest : Body) → first_where test (action t d rest) ≡ None → (test (content_by d) ≡ false) × (first_where test rest ≡ None)
  none_in_action d rest h = if_none (test (content_by d)) t (first_where test rest) h

  pub none_in_branch : (e : Expr) (a b rest : Body) → first_where test (branch t e a b rest) ≡ None
      → (test (If e) ≡ false) × (first_where test a ≡ None) × (first_where test b ≡ None) × (first_where test rest ≡ None)
  none_in_branch e a b rest h =
      let g = if_none (test (If e)) t _ h in
      let i = or_none (first_where test a) _ g.1 in
      let j = or_none (first_where test b) _ i.1 in
      (g.0, i.0, j.0, j.1)

  pub none_in_loop : (e : Expr) (b rest : Body) → first_where test (loop t e b rest) ≡ None
      → (test (While e) ≡ false) × (first_where test b ≡ None) × (first_where test rest ≡ None)
  none_in_loop e b rest h =
      let g = if_none (test (While e)) t _ h in
      let i = or_none (first_where test b) _ g.1 in
      (g.0, i.0, i.1)

map_none : {X : Type 0} (f : X → ShapeError) (a : Option X) → option_map f a ≡ None → a ≡ None
map_none f None h = refl
map_none f (Some x) h = absurd cc

pub no_refusal : (t : Tree) → shape t ≡ None → HasNoRefusal t
unfolding shape
no_refusal t h =
    let a = or_none _ _ h in
    let b = or_none _ _ a.1 in
    let c = or_none _ _ b.1 in
    let d = or_none _ _ c.1 in
    let e = or_none _ _ d.1 in
    let f = or_none _ _ e.1 in
    record {
      tags = map_none DuplicateTag (first_repeated_tag t.body) a.0;
      issued = map_none Unissued (first_unissued t.issued (tags_of t.body [])) b.0;
      levels = map_none TooDeep (first_deep MAX_LEVELS t.body) c.0;
      expressions = map_none ExprTooLarge (first_where says_large t.body) d.0;
      variables = map_none WrongName (first_where is_wrong t.body) e.0;
      parts = f.0;
      names = map_none DuplicateFinal (first_repeated bytes_eq [] t.finals) f.1;
    }

pub shaped : (t : Tree) → HasNoRefusal t → shape t ≡ None
unfolding shape
shaped t h = rw (h.tags, h.issued, h.levels, h.expressions, h.variables, h.parts, h.names) refl
