pub mod BadLine
pub mod Comparing
pub mod ExpectedText
pub mod Outputs
pub mod Story
pub mod StoryLine
pub mod StoryTable
pub mod Views
