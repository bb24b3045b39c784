pub mod PieceSteps
pub mod NestedNodes
pub mod SectionSteps
pub mod FormatHeights
pub mod PlanSteps
pub mod CiteSteps
pub mod ItemSteps
pub mod KeptHeights
