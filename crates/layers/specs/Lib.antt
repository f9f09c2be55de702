pub mod Corridor
pub mod Knotted
pub mod KnottedLaws
pub mod Marking
pub mod Rounded
pub mod RoundedLaws
