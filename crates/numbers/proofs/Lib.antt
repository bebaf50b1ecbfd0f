pub mod Standing
pub mod Encoded
pub mod ReadingBack
pub mod ReadingSteps
pub mod NumberLaws
pub mod WritingSteps
