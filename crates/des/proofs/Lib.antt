pub mod Rows
pub mod Numbers
pub mod Words
pub mod Joins
pub mod Selections
pub mod Halves
pub mod Keys
