pub mod StepLines
