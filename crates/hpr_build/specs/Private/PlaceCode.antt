-- Numbers that tell places apart.
--
-- parent_coded == control parents, with their codes
-- span_coded   == spans, with their codes
-- place_coded  == places, with their codes
use Rattle.std.specs.Prelude.{ℕ, Bool, Option, List, refl}
use Rattle.std.specs.Coded.{Coded, code_by, coded×, coded_ℕ, coded_bool, coded_option, coded_list}
use Rattle.hpr_syntax.specs.declared.rows.Content.{Content}
use Rattle.hpr_syntax.specs.Private.ContentCode.{content_coded}
use Rattle.hpr_build.specs.declared.places.Parent.{Parent}
use Rattle.hpr_build.specs.declared.places.Span.{Span}
use Rattle.hpr_build.specs.Places.{Place}

abbrev pub parent_coded : Coded Parent
parent_coded = code_by (ℕ × Bool) (coded× coded_ℕ coded_bool) (λ p. (p.point, p.label)) (λ c. record { point = c.0; label = c.1 }) (λ _. refl)

abbrev pub span_coded : Coded Span
span_coded = code_by (ℕ × ℕ) (coded× coded_ℕ coded_ℕ) (λ s. (s.from, s.to)) (λ c. record { from = c.0; to = c.1 }) (λ _. refl)

abbrev pub place_coded : Coded Place
place_coded =
    code_by ((ℕ × ℕ) × (Content × (Option Parent × List Span)))
    (coded× (coded× coded_ℕ coded_ℕ) (coded× content_coded (coded× (coded_option parent_coded) (coded_list span_coded))))
    (λ p. ((p.tag.author, p.tag.serial), (p.content, (p.parent, p.others))))
    (λ c. record { tag = record { author = c.0.0; serial = c.0.1 }; content = c.1.0; parent = c.1.1.0; others = c.1.1.1 }) (λ _. refl)
