-- Laws on which the edit of a definition is judged.
pub mod Numbers
