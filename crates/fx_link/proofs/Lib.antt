pub mod LinkFacts
pub mod Tables
