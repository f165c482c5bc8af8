-- How a number grows, digit by digit.
pub mod Laws
