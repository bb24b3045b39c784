pub mod AllNamed
pub mod MissingTasks
pub mod AllWritten
