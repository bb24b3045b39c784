pub mod CutSteps
pub mod TextSteps
pub mod OpenSteps
pub mod FrameSteps
pub mod WordingSteps
