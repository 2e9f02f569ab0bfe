-- What only the checker needs: no clause and no definition that one cites speaks of it.
pub mod PlaceCode
