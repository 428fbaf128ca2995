pub mod TypedDistances
pub mod TypedTexts
