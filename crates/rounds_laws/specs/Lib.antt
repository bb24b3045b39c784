pub mod BlockLaws
pub mod CollapseLaws
pub mod FurtherLaws
