-- What only the checker needs: no clause and no definition that one cites speaks of it.
pub mod TermCode
pub mod TermFalls
pub mod ExprCode
