pub mod Texts
pub mod PieceLemmas
pub mod KindLemmas
pub mod HexLemmas
pub mod RisenLemmas
pub mod JoinLemmas
