-- A program as plain data.
--
-- Tree       == issued numbers, a body, and the names of `end` in their order
-- tree_coded == trees with numbers that tell them apart
use Rattle.std.specs.Prelude.{ℕ, List, refl}
use Rattle.std.specs.Coded.{Coded, code_by, coded×, coded_ℕ, coded_list}
use Rattle.hpr_syntax.specs.Body.{Body}
use Rattle.hpr_syntax.specs.Private.BodyCode.{body_coded}

pub record Tree : Type 0 where
  pub issued : List (ℕ × ℕ)
  pub body : Body
  pub finals : List (List ℕ)

-- the numbers by which a proof tells trees apart
abbrev pub tree_coded : Coded Tree
tree_coded =
    code_by (List (ℕ × ℕ) × (Body × List (List ℕ))) (coded× (coded_list (coded× coded_ℕ coded_ℕ)) (coded× body_coded (coded_list (coded_list coded_ℕ))))
    (λ t. (t.issued, (t.body, t.finals))) (λ p. record { issued = p.0; body = p.1.0; finals = p.1.1 }) (λ _. refl)
