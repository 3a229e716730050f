pub mod IdStepLines
