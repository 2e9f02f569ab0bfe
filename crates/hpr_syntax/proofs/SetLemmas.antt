-- A set of what stands earlier.
use Rattle.std.proofs.Common.{◌≡◌, ℕ, ◌==◌, Bool, true, false, cond, ◌&&◌, ◌||◌, List, ◌∷◌, refl, ap, sym, ◌∙◌}
use Rattle.std.specs.List.{list_any}
use Rattle.std.specs.Str.{bytes_eq}
use Rattle.std.specs.Ordering.{is_eq, nat_cmp}
use Rattle.std.specs.Cmp.{unsigned_ties, both_tied, nat_eq_equiv}
use Rattle.std.specs.Cmp.Lexicographic.{slice_cmp, texts_ties}
use Rattle.std.proofs.lemmas.Cmp.{nat_list_eq_equiv}
use Rattle.hpr_terms.specs.declared.tag.Tag.{Tag}
use Rattle.hpr_terms.specs.contracts.tag.TagOrd.TheImpl as tags
use Rattle.hpr_syntax.specs.Parts.{same_tag}

or_cond : (b c d : Bool) → b ≡ c → cond b true d ≡ (c || d)
or_cond true true d e = refl
or_cond false false d e = refl
or_cond true false d e = absurd cc
or_cond false true d e = absurd cc

tag_tied : (t u : Tag) → is_eq ((tags.ghosts).cmp t u) ≡ same_tag u t
tag_tied t u =
    sym (both_tied (t.author == u.author) (t.serial == u.serial) (nat_cmp t.author u.author) (nat_cmp t.serial u.serial) (unsigned_ties t.author u.author) (unsigned_ties t.serial u.serial))
    ∙ (λ i. nat_eq_equiv.symm t.author u.author i && nat_eq_equiv.symm t.serial u.serial i)

-- a tag that is added
pub with_tag : (t u : Tag) (has had : Bool) (earlier : List Tag) → has ≡ cond (is_eq ((tags.ghosts).cmp t u)) true had → had ≡ list_any (same_tag u) earlier → has ≡ list_any (same_tag u) (t ∷ earlier)
with_tag t u has had earlier e f = e ∙ or_cond _ _ had (tag_tied t u) ∙ ap (λ b. same_tag u t || b) f

-- a name that is added
pub with_name : (x y : List ℕ) (has had : Bool) (earlier : List (List ℕ)) → has ≡ cond (is_eq (slice_cmp nat_cmp x y)) true had → had ≡ list_any (bytes_eq y) earlier → has ≡ list_any (bytes_eq y) (x ∷ earlier)
with_name x y has had earlier e f = e ∙ or_cond _ _ had (sym (texts_ties x y) ∙ nat_list_eq_equiv.symm x y) ∙ ap (λ b. bytes_eq y x || b) f
