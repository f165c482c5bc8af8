-- The rulebook's images of programs: their files, the plan, the RAM, and the image or why there is none.
pub mod Files
pub mod Plan
pub mod Ram
pub mod Made
