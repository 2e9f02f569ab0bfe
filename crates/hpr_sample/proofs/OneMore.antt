-- A body with one part without blocks more in its top block.
use Rattle.std.proofs.Common.{◌≡◌, ℕ, zero, suc, ◌+◌, ◌≤◌, Bool, false, List, Option, Some, if◌then◌else◌, refl, ap, arith}
use Rattle.std.specs.Option.{option_or}
use Rattle.hpr_terms.specs.declared.tag.Tag.{Tag}
use Rattle.hpr_terms.specs.declared.expr.Expr.{Expr}
use Rattle.hpr_terms.specs.Names.{IsVariable}
use Rattle.hpr_terms.specs.TermOf.{term_of}
use Rattle.hpr_syntax.specs.declared.rows.Content.{Content}
use Rattle.hpr_syntax.specs.declared.rows.Content.TheVariants.{Assign, If, While}
use Rattle.hpr_syntax.specs.Action.{Action, assigns, writes, stores}
use Rattle.hpr_syntax.specs.Body.{Body, done, action, branch, loop, part_count}
use Rattle.hpr_syntax.specs.Parts.{same_tag}
use Rattle.hpr_syntax.specs.Rows.{content_by}
use Rattle.hpr_syntax.specs.Proper.{IsProperBody, IsProperTag, IsProperTerm}
use Rattle.hpr_syntax.specs.Shape.{first_deep, first_where}
use Rattle.hpr_edit.specs.Changes.{from}
use Rattle.hpr_edit.specs.InPlace.{one_if, times}
use Rattle.hpr_edit.specs.Places.{joined, width}
use Rattle.hpr_sample.specs.Sample.{assign}

-- an action with another rest behind it
with_rest : (t : Tag) (d : Action) (old new : Body) → IsProperBody (action t d old) → (IsProperBody old → IsProperBody new) → IsProperBody (action t d new)
with_rest t (assigns x e) old new is more = (is.0, is.1, is.2, more is.3)
with_rest t (writes x e) old new is more = (is.0, is.1, is.2, more is.3)
with_rest t (stores x i e) old new is more = (is.0, is.1, is.2, is.3, more is.4)

module _ (t : Tag) (x : List ℕ) (e : Expr) where
  abbrev pub more : ℕ → Body → Body
  more n b = from n (joined (assign t x e)) b

  pub record HasMore (b new : Body) : Type 0 where
    pub times : (u : Tag) → times u new ≡ one_if (same_tag t u) + times u b
    pub count : part_count new ≡ part_count b + 1
    pub levels : (k : ℕ) → first_deep (suc k) new ≡ first_deep (suc k) b
    pub says : (test : Content → Bool) → test (Assign x e) ≡ false → first_where test new ≡ first_where test b
    pub proper : IsProperTag t → IsVariable x → IsProperTerm (term_of e) → IsProperBody b → IsProperBody new

  pub has_more : (n : ℕ) (b : Body) → n ≤ width b → HasMore b (more n b)
  has_more zero b h = record {
    times = λ u. refl;
    count = refl;
    levels = λ k. refl;
    says = λ test fails. ap (λ (c : Bool). if c then Some t else first_where test b) fails;
    proper = λ is_tag is_variable is_term is. (is_tag, is_variable, is_term, is);
  }
  has_more (suc n) done h = absurd (omega (arith, h))
  has_more (suc n) (action u d rest) h =
      let r = has_more n rest (omega (arith, h)) in
      record {
        times = λ v. omega (arith, r.times v);
        count = omega (arith, r.count);
        levels = r.levels;
        says = λ test fails. ap (λ (o : Option Tag). if test (content_by d) then Some u else o) (r.says test fails);
        proper = λ is_tag is_variable is_term is. with_rest u d rest (more n rest) is (r.proper is_tag is_variable is_term);
      }
  has_more (suc n) (branch u f a b rest) h =
      let r = has_more n rest (omega (arith, h)) in
      record {
        times = λ v. omega (arith, r.times v);
        count = omega (arith, r.count);
        levels = λ k. ap (λ (o : Option Tag). option_or (first_deep k a) (option_or (first_deep k b) o)) (r.levels k);
        says = λ test fails.
            ap (λ (o : Option Tag). if test (If f) then Some u else option_or (first_where test a) (option_or (first_where test b) o)) (r.says test fails);
        proper = λ is_tag is_variable is_term is. (is.0, is.1, is.2, is.3, r.proper is_tag is_variable is_term is.4);
      }
  has_more (suc n) (loop u f b rest) h =
      let r = has_more n rest (omega (arith, h)) in
      record {
        times = λ v. omega (arith, r.times v);
        count = omega (arith, r.count);
        levels = λ k. ap (λ (o : Option Tag). option_or (first_deep k b) o) (r.levels k);
        says = λ test fails. ap (λ (o : Option Tag). if test (While f) then Some u else option_or (first_where test b) o) (r.says test fails);
        proper = λ is_tag is_variable is_term is. (is.0, is.1, is.2, r.proper is_tag is_variable is_term is.3);
      }
