-- What laws speak of beside the definitions: types in order, and the bound part by part, which contracts of code cite. What is proved
-- stands in proofs/Laws.
pub mod Shape
pub mod DirectBound
