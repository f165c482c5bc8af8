-- The rulebook's images: the lines of a text, which frames are allowed, which texts are refused and where, what frames do, the image of a text, the exact cases of the refusals, and the worked example.
pub mod Lines
pub mod Allowed
pub mod Refusals
pub mod Acts
pub mod Image
pub mod Exact
pub mod Example
