-- Laws of the line of a tape, by subject.
pub mod ReadingFields
pub mod ReadingKinds
