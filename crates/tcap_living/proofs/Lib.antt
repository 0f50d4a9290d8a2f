pub mod LineParts
pub mod LivedTexts
pub mod LineDeeds
pub mod Takings
pub mod Goings
pub mod WordNumbers
mod LineForms
pub mod Appended
