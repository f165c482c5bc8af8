-- What is promised of the images of programs.
pub mod Pages
pub mod Mills
pub mod ByName
