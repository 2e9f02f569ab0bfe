-- The names that a vertex uses.
use Rattle.std.proofs.Common.{◌≡◌, ◌↔◌, inl, inr, ℕ, List, [], ◌∷◌, Contains, sym, subst}
use Rattle.std.specs.List.Sorted.{IsStrictlySortedBy}
use Rattle.hpr_terms.specs.declared.tag.Tag.{Tag}
use Rattle.hpr_syntax.specs.declared.rows.Content.{Content}
use Rattle.hpr_syntax.specs.Contents.{used_names}
use Rattle.hpr_syntax.proofs.ActByUses.{uses_in}
use Rattle.hpr_graph.specs.declared.vertex.Vertex.{Vertex}
use Rattle.hpr_graph.specs.declared.vertex.Vertex.TheVariants.{Entry, Init, Part, Final}
use Rattle.hpr_graph.specs.Order.{name_cmp}
use Rattle.hpr_graph.proofs.Lists.{in_none, in_cons, in_here}
use Rattle.hpr_drawn.specs.Told.{AreUses, UsesName}

pub part_uses : (t : Tag) (c : Content) (used xs : List (List ℕ)) → used ≡ used_names c → IsStrictlySortedBy name_cmp xs
    → ((x : List ℕ) → Contains xs x ↔ Contains used x) → AreUses (Part t c) xs
part_uses t c used xs is ascend same =
    record {
      ascend = ascend;
      all = λ x. (
        λ h. (uses_in c x).0 (subst (λ ns. Contains ns x) is ((same x).0 h)),
        λ u. (same x).1 (subst (λ ns. Contains ns x) (sym is) ((uses_in c x).1 u)),
      );
    }

none : (v : Vertex) → ((x : List ℕ) → UsesName v x → ⊥) → AreUses v []
unfolding IsStrictlySortedBy
none v h = record { ascend = tt; all = λ x. (λ c. absurd (in_none x c), λ u. absurd (h x u)) }

pub entry_uses : AreUses Entry []
entry_uses = none Entry (λ x u. u)

pub init_uses : (y : List ℕ) → AreUses (Init y) []
init_uses y = none (Init y) (λ x u. u)

pub final_uses : (y : List ℕ) (xs : List (List ℕ)) → xs ≡ y ∷ [] → AreUses (Final y) xs
unfolding IsStrictlySortedBy
final_uses y xs is =
    subst (AreUses (Final y)) (sym is)
    (record {
      ascend = (tt, tt);
      all = λ x. (
        λ c. elim (in_cons y x [] c) [ inl e ↦ sym e | inr later ↦ absurd (in_none x later) ],
        λ e. subst (Contains (y ∷ [])) (sym e) (in_here y []),
      );
    })
